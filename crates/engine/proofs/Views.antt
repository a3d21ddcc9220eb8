-- A search through the policies, and one through the locks of a slot
use Rattle.std.proofs.Common.{◌≡◌, ℕ, zero, suc, ◌+◌, Bool, true, ◌||◌, List, [], ◌∷◌, Some, None, Option, refl, ap, ap₂, ◌∙◌, subst, ⊎_elim, arith}
use Rattle.std.specs.List.{list_any, slice_get, enumerate_from}
use Rattle.std.specs.Cmp.{both_ways}
use Rattle.std.proofs.lemmas.Bool.{false≢true, or_left, or_right, or_cases, and_parts, eqb-true}
use Rattle.protocol.specs.declared.policy.Object.{Object}
use Rattle.protocol.specs.declared.policy.Policy.{Policy}
use Rattle.rights.specs.declared.order.Operation.{Operation}
use Rattle.locking.specs.declared.mode.PolicyMode.TheVariants.{Deploy}
use Rattle.serial.specs.Words.{Setup, Store}
use Rattle.serial.specs.Locks.{Lock, OnCell, OnPolicy}
use Rattle.serial.specs.Model.{any_policy}
use Rattle.lock_table.specs.Lists.{Covers, on_one_row}
use Rattle.engine.specs.Permits.{permits_at, permits_if_there, permits_by}

pub any_numbered : (f g : ℕ → Policy → Bool) (n : ℕ) (es : List Policy) → ((i j : ℕ) (e : Policy) → j ≡ n + i → f j e ≡ g i e) → list_any (λ p. f p.0 p.1) (enumerate_from n es) ≡ any_policy g es
unfolding any_policy
any_numbered f g n [] same = refl
any_numbered f g n (x ∷ es) same = ap₂ (λ a b. a || b) (same 0 n x (omega arith)) (any_numbered f (λ i. g (suc i)) (n + 1) es (λ i j e q. same (suc i) j e (omega arith)))

-- some policy passes just where one at a number does
policy_passes : (f : ℕ → Policy → Bool) (es : List Policy) (i : ℕ) (e : Policy) → slice_get es i ≡ Some e → f i e ≡ true → any_policy f es ≡ true
unfolding any_policy
policy_passes f [] i e is passes = absurd (let no : None ≡ Some e = is in cc)
policy_passes f (x ∷ es) zero e is passes = or_left (f 0 x) _ (let same : x ≡ e = cc in ap (f 0) same ∙ passes)
policy_passes f (x ∷ es) (suc i) e is passes = or_right (f 0 x) _ (policy_passes (λ j. f (suc j)) es i e is passes)

passing_policy : (f : ℕ → Policy → Bool) (es : List Policy) → any_policy f es ≡ true → (i : ℕ) × (e : Policy) × (slice_get es i ≡ Some e) × (f i e ≡ true)
unfolding any_policy
passing_policy f [] a = absurd (false≢true a)
passing_policy f (e ∷ es) a =
    ⊎_elim (λ h. (0, e, refl, h))
    (λ b. let w = passing_policy (λ i. f (suc i)) es b in (suc w.0, w.1, w.2, w.3))
    (or_cases (f 0 e) (any_policy (λ i. f (suc i)) es) a)

-- what follows from each lock that passes, and from some that does
any_gives : (p : Lock → Bool) (b : Bool) (ls : List Lock) → ((l : Lock) → p l ≡ true → b ≡ true) → list_any p ls ≡ true → b ≡ true
any_gives p b [] each h = absurd (false≢true h)
any_gives p b (l ∷ ls) each h = ⊎_elim (each l) (any_gives p b ls each) (or_cases (p l) (list_any p ls) h)

any_as : (p q : Lock → Bool) (ls : List Lock) → ((l : Lock) → p l ≡ true → q l ≡ true) → list_any p ls ≡ true → list_any q ls ≡ true
any_as p q [] each h = h
any_as p q (l ∷ ls) each h = ⊎_elim (λ a. or_left (q l) _ (each l a)) (λ a. or_right (q l) _ (any_as p q ls each a)) (or_cases (p l) (list_any p ls) h)

module _ (S : Setup) (s : Store) (holds : Lock → Bool) (o : Object) (op : Operation) (ls : List Lock) (covers : Covers ls holds) where
  -- some policy permits
  abbrev some_permits : Bool
  some_permits = any_policy (permits_at S s holds o op) S.policies

  there : (i : ℕ) (e : Option Policy) → slice_get S.policies i ≡ e → permits_if_there S s holds o op i e ≡ true → some_permits ≡ true
  there i None is passes = absurd (false≢true passes)
  there i (Some e) is passes = policy_passes (permits_at S s holds o op) S.policies i e is passes

  by_lock : (l : Lock) → permits_by S s holds o op l ≡ true → some_permits ≡ true
  by_lock (OnCell m c) passes = absurd (false≢true passes)
  by_lock (OnPolicy m i) passes = there i (slice_get S.policies i) refl passes

  -- a lock on the row of the policy's deploy lock
  beside : (i : ℕ) (e : Policy) → slice_get S.policies i ≡ Some e → permits_at S s holds o op i e ≡ true → (l : Lock) → on_one_row (OnPolicy Deploy i) l ≡ true → permits_by S s holds o op l ≡ true
  beside i e is passes (OnCell m c) one = absurd (false≢true one)
  beside i e is passes (OnPolicy m j) one =
      subst (λ k. permits_if_there S s holds o op k (slice_get S.policies k) ≡ true) (eqb-true i j one) (ap (permits_if_there S s holds o op i) is ∙ passes)

  -- what some lock permits is what some policy permits, since a policy that is deployed has its deploy lock held
  pub locks_permit : list_any (permits_by S s holds o op) ls ≡ some_permits
  locks_permit = both_ways _ _ (any_gives (permits_by S s holds o op) some_permits ls by_lock) back
    where
      back : some_permits ≡ true → list_any (permits_by S s holds o op) ls ≡ true
      back passes =
          let w = passing_policy (permits_at S s holds o op) S.policies passes in
          any_as (on_one_row (OnPolicy Deploy w.0)) (permits_by S s holds o op) ls (beside w.0 w.1 w.2 w.3) (covers (OnPolicy Deploy w.0) (and_parts _ _ w.3).0)
