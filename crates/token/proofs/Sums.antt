-- The three parts of add_to_cell put together: its open, its calls, its end.
use Rattle.std.proofs.Common.{◌≡◌, ℕ, Bool, true, false, ltb, List, [], Ok, Err, sym, refl, ap, subst, ◌∙◌}
use Rattle.protocol.specs.declared.answer.Answer.{Answer}
use Rattle.protocol.specs.declared.answer.Answer.TheVariants.{Granted, Refused, Wait, Aborted}
use Rattle.protocol.specs.declared.refusal.Refusal.{Refusal}
use Rattle.protocol.specs.declared.request.Request.TheVariants.{Open, Commit, GiveUp}
use Rattle.stores.specs.declared.store.Store as store
use Rattle.serial.specs.Words.{Setup, Change}
use Rattle.serial.specs.Requests.{asks_commit}
use Rattle.serial.specs.Model.{State, any_free, open_in, perform, step, after}
use Rattle.serial.specs.Writes.{changes_by}
use Rattle.engine.specs.Stores.{Wrote}
use Rattle.engine.proofs.Writing.{wrote_both}
use Rattle.token.specs.Adding.{adds, ends, end_changes, Added}

-- After calls that wrote nothing, one that wrote these changes
module _ {C R : Type 0} {c : store.Ghosts C} {r : store.Ghosts R} {cells cells' cells'' : C} {rights rights' rights'' : R} {ks : List Change} where
  pub wrote_after : Wrote c r cells rights cells' rights' [] → Wrote c r cells' rights' cells'' rights'' ks → Wrote c r cells rights cells'' rights'' ks
  wrote_after = wrote_both c r [] ks cells cells' cells'' rights rights' rights''

refused_in : (σ τ : State) (u : ℕ) (f : Refusal) (few room : Bool) → (Refused f, τ) ≡ open_in σ u few room → τ ≡ σ
unfolding open_in
refused_in σ τ u f false room e = ap (λ x. x.1) e
refused_in σ τ u f true false e = ap (λ x. x.1) e
refused_in σ τ u f true true e = cc (ap (λ x. x.0) e)

-- It gave up, and keeps the answer for which it did; and has written nothing.
gave_up : (S : Setup) (σ τ : State) (t : ℕ) (a b : Answer) → ((n : ℕ) → a ≡ Granted n → ⊥) → (b, τ) ≡ step S σ (GiveUp t) → (a, τ) ≡ ends t S a σ
gave_up S σ τ t (Granted n) b other e = absurd (other n refl)
gave_up S σ τ t (Refused f) b other e = ap (λ x. (Refused f, x.1)) e
gave_up S σ τ t (Wait u) b other e = ap (λ x. (Wait u, x.1)) e
gave_up S σ τ t (Aborted u p) b other e = ap (λ x. (Aborted u p, x.1)) e

gave_up_changes : (σ : State) (t : ℕ) (a : Answer) → ((n : ℕ) → a ≡ Granted n → ⊥) → end_changes t a σ a ≡ []
gave_up_changes σ t (Granted n) other = absurd (other n refl)
gave_up_changes σ t (Refused f) other = refl
gave_up_changes σ t (Wait u) other = refl
gave_up_changes σ t (Aborted u p) other = refl

module _ (S : Setup) (σ : State) (u p k n : ℕ) (wrote : List Change → Type 0) where
  pub refused : (f : Refusal) (τ : State) → (Refused f, τ) ≡ step S σ (Open u) → wrote [] → Added S σ u p k n wrote (Err f) τ
  unfolding perform
  refused f τ went w = (sym (ap (λ x. x.0) went), refused_in σ τ u f (ltb σ.opened 50000) (any_free σ.slots) went, w)

  module _ (S₁ S₂ : Setup) (σ₁ σ₂ σ₃ : State) (t : ℕ) (a b : Answer)
      (opened : (Granted t, σ₁) ≡ step S σ (Open u)) (went : (a, σ₂) ≡ adds t p k n S₁ σ₁) (same₁ : S₁ ≡ S) (same₂ : S₂ ≡ S₁) where
    added : (a, σ₂) ≡ adds t p k n S (after S σ (Open u))
    added = went ∙ ap (λ U. adds t p k n U σ₁) same₁ ∙ ap (λ x. adds t p k n S x.1) opened

    ended : (d : Answer) → (d, σ₃) ≡ ends t S₂ a σ₂ → wrote (end_changes t a σ₂ d) → Added S σ u p k n wrote (Ok d) σ₃
    ended d last w = (
      t,
      sym (ap (λ x. x.0) opened),
      last ∙ ap (λ U. ends t U a σ₂) (same₂ ∙ same₁) ∙ ap (λ x. ends t S x.0 x.1) added,
      subst (λ x. wrote (end_changes t x.0 x.1 d)) added w,
    )

    pub committed : (m : ℕ) → a ≡ Granted m → (b, σ₃) ≡ step S₂ σ₂ (Commit t) → wrote (changes_by σ₂ (asks_commit t) b)
        → Added S σ u p k n wrote (Ok b) σ₃
    committed m granted last w = ended b (rw granted last) (rw granted w)

    pub given_up : ((m : ℕ) → a ≡ Granted m → ⊥) → (b, σ₃) ≡ step S₂ σ₂ (GiveUp t) → wrote [] → Added S σ u p k n wrote (Ok a) σ₃
    given_up other last w = ended a (gave_up S₂ σ₂ σ₃ t a b other last) (rw (gave_up_changes σ₂ t a other) w)
