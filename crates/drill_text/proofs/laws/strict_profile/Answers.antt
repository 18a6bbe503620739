use Rattle.drill_text.proofs.laws.strict_profile.Goals as goal

pub returns-clause-shown : goal.returns-clause-shown
returns-clause-shown c text a = (λ h. h, λ h. h)

pub returns-clause-read : goal.returns-clause-read
returns-clause-read c text a = (λ h. h, λ h. h)
