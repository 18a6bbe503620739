pub mod RouteSteps
