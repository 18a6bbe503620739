pub mod HeldBack
