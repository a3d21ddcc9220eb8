-- An open is answered by a number that a token has room for, or by a refusal.
use Rattle.std.proofs.Common.{◌≡◌, ℕ, ◌≤◌, Bool, true, false, ltb, sym, refl, ap, subst, arith, ltb-true}
use Rattle.protocol.specs.declared.answer.Answer.{Answer}
use Rattle.protocol.specs.declared.answer.Answer.TheVariants.{Granted, Refused, Wait, Aborted}
use Rattle.protocol.specs.declared.request.Request.TheVariants.{Open}
use Rattle.serial.specs.Words.{Setup}
use Rattle.serial.specs.Model.{State, any_free, open_in, perform, step}

abbrev pub AnswersOpen : Answer → Type 0
AnswersOpen (Granted n) = n ≤ 50000
AnswersOpen (Refused f) = Unit {0}
AnswersOpen (Wait t) = ⊥
AnswersOpen (Aborted t p) = ⊥

answers_in : (σ : State) (u : ℕ) (few room : Bool) → ltb σ.opened 50000 ≡ few → AnswersOpen (open_in σ u few room).0
unfolding open_in
answers_in σ u false room e = tt
answers_in σ u true false e = tt
answers_in σ u true true e = omega (arith, ltb-true σ.opened 50000 e)

pub answers_open : (S : Setup) (σ τ : State) (u : ℕ) (a : Answer) → (a, τ) ≡ step S σ (Open u) → AnswersOpen a
unfolding perform
answers_open S σ τ u a went = subst AnswersOpen (sym (ap (λ x. x.0) went)) (answers_in σ u (ltb σ.opened 50000) (any_free σ.slots) refl)
