-- Why locks stay compatible, on cells and on policies alike, as slots leave and one comes.
use Rattle.std.proofs.Common.{◌≡◌, ℕ, Bool, true, false, cond, not, ◌&&◌, ◌||◌, eqb, ◌⊎◌, List, sym, refl, ap, ◌∙◌, inl, inr, ⊎_elim, arith}
use Rattle.std.specs.List.{list_any}
use Rattle.std.proofs.lemmas.Bool.{cases_Bool, cases_eq, and_from, and_parts, both_ways, not-true, true≢false, eq-eqb}
use Rattle.std.proofs.lemmas.Bool.Decides.{nat_tests}
use Rattle.locking.specs.Modes.{same_answer}
use Rattle.locking.specs.Locks.{Beside, put, shared, IsFree, says_so, some_says, hears, LockGranted}
use Rattle.locking.specs.declared.mode.LockAnswer.{LockAnswer}
use Rattle.locking.specs.declared.mode.LockAnswer.TheVariants.{Compatible, Conflict, Signal}

-- and so does a slot that comes to either set, where those in the other are that slot
beside_more : (p q p' q' : ℕ → Bool) (slot : ℕ) (to_p to_q : Bool) → Beside p q → ((k : ℕ) → p' k ≡ ((to_p && eqb k slot) || p k)) → ((k : ℕ) → q' k ≡ ((to_q && eqb k slot) || q k)) → (to_p ≡ true → (k : ℕ) → q k ≡ true → k ≡ slot) → (to_q ≡ true → (k : ℕ) → p k ≡ true → k ≡ slot) → Beside p' q'
beside_more p q p' q' slot to_p to_q old e f sole_q sole_p j k both =
    let o = old j k in
    let at_j = e j in
    let at_k = f k in
    let x : to_p ≡ true → q k ≡ true → k ≡ slot = λ t. sole_q t k in
    let y : to_q ≡ true → p j ≡ true → j ≡ slot = λ t. sole_p t j in
    grind (arith, nat_tests)

put_joins : (same many held : Bool) (k slot : ℕ) → (same ≡ true → many ≡ false → held ≡ true → k ≡ slot) → cond same (eqb k slot || (many && held)) held ≡ ((same && eqb k slot) || held)
put_joins same many held k slot sole = grind (arith, nat_tests)

not_compatible : (a : LockAnswer) → same_answer a Compatible ≡ false → (same_answer a Conflict ≡ true) ⊎ (same_answer a Signal ≡ true)
not_compatible Compatible e = absurd (true≢false e)
not_compatible Conflict e = inl refl
not_compatible Signal e = inr refl

-- A slot has come to a lock that is free for it.
module _ {M : Type 0} (says : M → M → LockAnswer) (holds : M → ℕ → Bool) (asked : M) (asker : ℕ) (same : M → M → Bool) (same_is : (m n : M) → same m n ≡ true → m ≡ n) (free : IsFree says holds asked asker) (one : (m : M) → shared says m ≡ false → Beside (holds m) (holds m)) where
  stays_beside : (m n : M) (k : ℕ) → same_answer (says n m) Compatible ≡ false → m ≡ asked → (holds m asker ≡ true → holds n k ≡ true → k ≡ asker) → holds n k ≡ true → k ≡ asker
  stays_beside m n k bars is old l =
      ⊎_elim
      (λ held. old (ap (λ x. holds x asker) is ∙ held) l)
      (λ new. free n k (ap (λ x. same_answer (says n x) Compatible) (sym is) ∙ bars) new l)
      (cases_Bool (holds asked asker))

  -- it takes no other's place
  joins : (m : M) (k : ℕ) → put (same m asked) (shared says m) (holds m) asker k ≡ ((same m asked && eqb k asker) || holds m k)
  joins m k =
      put_joins (same m asked) (shared says m) (holds m k) k asker
      (λ t alone. stays_beside m m k alone (same_is m asked t) (λ x y. one m alone asker k (and_from (holds m asker) (holds m k) x y)))

  -- and two locks of which neither goes with the other stay with one slot
  pub beside_after : (m n : M) (p q : ℕ → Bool) → same_answer (says m n) Compatible ≡ false → same_answer (says n m) Compatible ≡ false → Beside (holds m) (holds n) → ((k : ℕ) → p k ≡ put (same m asked) (shared says m) (holds m) asker k) → ((k : ℕ) → q k ≡ put (same n asked) (shared says n) (holds n) asker k) → Beside p q
  beside_after m n p q apart apart' old e f =
      beside_more (holds m) (holds n) p q asker (same m asked) (same n asked) old (λ k. e k ∙ joins m k) (λ k. f k ∙ joins n k)
      (λ t k. stays_beside m n k apart' (same_is m asked t) (λ x y. old asker k (and_from (holds m asker) (holds n k) x y)))
      (λ t k. stays_beside n m k apart (same_is n asked t) (λ x y. sym (old k asker (and_from (holds m k) (holds n asker) y x))))

-- Nobody says no, and those who say signal go.
module _ {M : Type 0} (says : M → M → LockAnswer) (holds : M → ℕ → Bool) (asked : M) (asker : ℕ) (modes : List M) (each : (p : M → Bool) (m : M) → p m ≡ true → list_any p modes ≡ true) where
  -- what a lock of a slot that counts says is heard
  heard : (answer : LockAnswer) (k : ℕ) (m : M) → holds m k ≡ true → same_answer (says m asked) answer ≡ true → holds asked asker ≡ false → (k ≡ asker → ⊥) → hears says modes holds answer asked asker k ≡ true
  unfolding some_says
  heard answer k m h s new other =
      let e = each (λ n. says_so (holds n) (says n asked) answer k) m (and_from (holds m k) (same_answer (says m asked) answer) h s) in
      grind (arith, nat_tests)

  module _ (left : M → ℕ → Bool) (blockers struck : ℕ → Bool) (exact : (k : ℕ) → blockers k ≡ hears says modes holds Conflict asked asker k) (nobody : (k : ℕ) → blockers k ≡ false) (signal : (k : ℕ) → struck k ≡ hears says modes holds Signal asked asker k) (gone : (m : M) (k : ℕ) → left m k ≡ (holds m k && not (struck k))) where
    -- the asker is not struck
    own : left asked asker ≡ false → holds asked asker ≡ false
    own e =
        let g = gone asked asker in
        let s = signal asker in
        let i = eq-eqb asker asker refl in
        grind (arith, nat_tests)

    -- of the locks that do not go with the asked one, only the asker's own are left
    pub left_free : IsFree says left asked asker
    left_free m k apart new l =
        let parts = and_parts (holds m k) (not (struck k)) (sym (gone m k) ∙ l) in
        let kept : hears says modes holds Signal asked asker k ≡ false = sym (signal k) ∙ not-true (struck k) parts.1 in
        ⊎_elim (λ e. e)
        (λ other.
        ⊎_elim
        (λ no. absurd (both_ways _ (sym (exact k) ∙ nobody k) (heard Conflict k m parts.0 no (own new) other)))
        (λ yes. absurd (both_ways _ kept (heard Signal k m parts.0 yes (own new) other)))
        (not_compatible (says m asked) apart))
        (cases_eq k asker)

    -- so the lock is the asker's in the end, beside the locks that are left
    pub granted : (same : M → M → Bool) → ((m n : M) → same m n ≡ true → m ≡ n) → ((m : M) → shared says m ≡ false → Beside (left m) (left m)) → (after : M → ℕ → Bool) → ((m : M) (k : ℕ) → after m k ≡ put (same m asked) (shared says m) (left m) asker k) → LockGranted same says modes holds asked asker after struck
    granted same same_is one after e = record {
      nobody_conflicts = λ k. sym (exact k) ∙ nobody k;
      signals_struck = signal;
      locks_after = λ m k. e m k ∙ joins says left asked asker same same_is left_free one m k ∙ ap (λ held. (same m asked && eqb k asker) || held) (gone m k);
    }
