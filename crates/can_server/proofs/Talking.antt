-- The results of a session's port are the same after the port was taken out and put back.
use Rattle.std.proofs.Common.{◌≡◌, ℕ, Bool, true, List, sym, subst}
use Rattle.can_dialog.specs.declared.stage.Stage.{Stage}
use Rattle.can_dialog.specs.Calls.{Call, Reply}
use Rattle.can_dialog.specs.Deliveries.{GivesItems}

module _ {P : Type 0} (step : P → (call : Call) → Reply call → P → Type 0) (stage : Stage) (text : List ℕ) where
  -- equal ports have the same results
  pub gives_of : (most : ℕ) (p was q now : P) (is : Bool) → was ≡ p → now ≡ q → GivesItems step most stage was text q is → GivesItems step most stage p text now is
  gives_of most p was q now is begins ends h = subst (λ (x : P). GivesItems step most stage p text x is) (sym ends) (subst (λ (x : P). GivesItems step most stage x text q is) begins h)

  -- equal item counts have the same results
  pub gives_all : (n most : ℕ) (p q : P) (is : Bool) → n ≡ most → is ≡ true → GivesItems step most stage p text q is → GivesItems step n stage p text q true
  gives_all n most p q is same all h = subst (λ (k : ℕ). GivesItems step k stage p text q true) (sym same) (subst (λ (b : Bool). GivesItems step most stage p text q b) all h)
