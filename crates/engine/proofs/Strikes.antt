-- A lock that is granted or has to wait, on the machine's slots.
use Rattle.std.proofs.Common.{◌≡◌, ℕ, zero, suc, ◌+◌, ◌<◌, Bool, true, false, cond, not, ◌&&◌, ◌||◌, eqb, ◌≢◌, ◌⊎◌, List, [], ◌∷◌, map, length, get_or, Some, None, Option, sym, refl, ap, ap₂, ◌∙◌, subst, inl, inr, arith}
use mathlib.Core.Path.{fun_ext}
use Rattle.std.proofs.lemmas.Simd.{map-map}
use Rattle.std.proofs.lemmas.List.{ext_get_or, get_or-map, length-map}
use Rattle.std.proofs.lemmas.Bool.{cases_eq, eq-eqb, ne_eqb, both_ways}
use Rattle.std.proofs.lemmas.Bool.Decides.{nat_tests}
use Rattle.serial.specs.Locks.{Lock, lock_number, same_lock}
use Rattle.serial.specs.Model.{Slot as ModelSlot, Transaction as ModelTransaction, free, open_slot, aborted_slot, strike, blocks, blocker, lower, signalled, replace, replace_slot}
use Rattle.locking.specs.Slots.{count_below}
use Rattle.lock_table.specs.Held.{conflicts, Granted}
use Rattle.lock_table.specs.Held.{held}
use Rattle.slot_table.specs.declared.slot.Transaction.{Transaction}
use Rattle.slot_table.specs.declared.slot.OpenSlot.{OpenSlot}
use Rattle.slot_table.specs.Tables.{used}
use Rattle.slot_table.proofs.Invariants.{distinct_at, few_used}
use Rattle.engine.specs.declared.tables.Tables.{Tables}
use Rattle.engine.specs.Tables.{OpenIn, asker_in, slots_in, Got}
use Rattle.slot_table.specs.declared.slot.Slot.{Slot}
use Rattle.slot_table.specs.declared.slot.Slot.TheVariants.{Free, Open, Aborted}
use Rattle.slot_table.specs.Slots.{transaction_of, slot_of, slots_from, slot_named, is_open, Idle, abort_if}
use Rattle.slot_table.specs.Lowest.{number_if_open, lowest_in}
use Rattle.engine.specs.Asking.{with_lock}
use Rattle.slot_table.proofs.SlotLists.{length_slots_from, slots_from_at, standing_is}
use Rattle.engine.proofs.Counts.{signals_in, counted}
use Rattle.engine.proofs.Verdicts.{other_conflicts, other_signals, own_conflicts, own_signals, self_conflicts, self_signals, idle_conflicts, idle_signals}

nobody : (b : Bool) → ◌≡◌ {A = Option ℕ} None (cond b None None)
nobody true = refl
nobody false = refl

at_home : (a b h s : Bool) → b ≡ true → s ≡ false → ((a && b) || (h && not s)) ≡ (a || h)
at_home a b h s e f = grind (arith, nat_tests)

elsewhere : (a b h s : Bool) → b ≡ false → s ≡ false → ((a && b) || (h && not s)) ≡ h
elsewhere a b h s e f = grind (arith, nat_tests)

-- The lowest of the slots that a test takes, where the test says who blocks
blocker_by : (h : ℕ → Lock → Bool) (x : ModelTransaction) (asked : Lock) (b : ℕ → Bool) (n : ℕ) (ss : List Slot)
    → ((k m : ℕ) → m ≡ n + k → blocks x asked (slot_of (h m) (get_or ss k Free)) ≡ cond (b m) (number_if_open (get_or ss k Free)) None)
    → blocker x asked (slots_from h n ss) ≡ lowest_in b n ss
unfolding blocker lowest_in slots_from
blocker_by h x asked b n [] each = refl
blocker_by h x asked b n (s ∷ ss) each = ap₂ lower (each 0 n (omega arith)) (blocker_by h x asked b (suc n) ss (λ k m e. each (suc k) m (omega arith)))

lowest_nobody : (n : ℕ) (ss : List Slot) → lowest_in (λ k. false) n ss ≡ None
unfolding lowest_in
lowest_nobody n [] = refl
lowest_nobody n (s ∷ ss) = lowest_nobody (suc n) ss

lower_none : (a b : Option ℕ) → lower a b ≡ None → (a ≡ None) × (b ≡ None)
lower_none None b e = (refl, e)
lower_none (Some a) None e = cc
lower_none (Some a) (Some b) e = cc

not_taken : (b : Bool) (s : Slot) → cond b (number_if_open s) None ≡ None → is_open s ≡ true → b ≡ false
not_taken false s e o = refl
not_taken true (Open y) e o = cc
not_taken true Free e o = cc
not_taken true (Aborted i b p) e o = cc

lowest_none : (b : ℕ → Bool) (n : ℕ) (ss : List Slot) → lowest_in b n ss ≡ None → (k m : ℕ) → m ≡ n + k → is_open (get_or ss k Free) ≡ true → b m ≡ false
unfolding lowest_in
lowest_none b n [] e k m q o = cc
lowest_none b n (s ∷ ss) e zero m q o = let p : m ≡ n = omega arith in rw p (not_taken (b n) s (lower_none _ _ e).0 o)
lowest_none b n (s ∷ ss) e (suc k) m q o = lowest_none b (suc n) ss (lower_none _ _ e).1 k m (omega arith) o

-- Every slot is changed as f says
slots_mapped : (h g : ℕ → Lock → Bool) (ss ts : List Slot) (f : ModelSlot → ModelSlot) → length ts ≡ length ss
    → ((k : ℕ) → k < length ss → slot_of (g k) (get_or ts k Free) ≡ f (slot_of (h k) (get_or ss k Free))) → slots_from g 0 ts ≡ map f (slots_from h 0 ss)
slots_mapped h g ss ts f same each =
    ext_get_or free (slots_from g 0 ts) (map f (slots_from h 0 ss))
    (length_slots_from g 0 ts ∙ same ∙ sym (length-map (slots_from h 0 ss) f ∙ length_slots_from h 0 ss))
    (λ k lt.
    let lt' : k < length ss = omega (arith, length_slots_from g 0 ts) in
    slots_from_at g ts k ∙ each k lt' ∙ ap f (sym (slots_from_at h ss k)) ∙ sym (get_or-map f (slots_from h 0 ss) k free free (omega (arith, length_slots_from h 0 ss))))

-- An open transaction asks for a lock.
module _ (t : Tables) (i : ℕ) (x : Transaction) (asked : Lock) (mine : get_or (used t.slots) i Free ≡ Open x) where
  abbrev h : ℕ → Lock → Bool
  h = held t.locks

  abbrev ss : List Slot
  ss = used t.slots

  abbrev asker : ModelTransaction
  asker = transaction_of (h i) x

  -- another slot, of another number
  differs : (k : ℕ) (s : Slot) → get_or ss k Free ≡ s → k ≢ i → slot_named s x.id ≡ true → ⊥
  differs k s e ne n = ne (distinct_at t.slots k i x.id (rw e n) (rw mine (eq-eqb x.id x.id refl)))

  numbers : (k : ℕ) (y : Transaction) → get_or ss k Free ≡ Open y → k ≢ i → x.id ≢ y.id
  numbers k y e ne n = differs k (Open y) e ne (eq-eqb y.id x.id (sym n))

  -- Who says no

  block_at : (k : ℕ) (s : Slot) → get_or ss k Free ≡ s → (k ≡ i) ⊎ (k ≢ i) → blocks asker asked (slot_of (h k) s) ≡ cond (conflicts h asked i k) (number_if_open s) None
  block_at k Free e w = nobody (conflicts h asked i k)
  block_at k (Aborted a b p) e w = nobody (conflicts h asked i k)
  block_at k (Open y) e (inl q) = let m : y ≡ x = cc in rw (q, m, own_conflicts h asked i x, self_conflicts h asked i)
  block_at k (Open y) e (inr ne) = rw (other_conflicts h asked i x k y ne (numbers k y e ne))

  -- The lowest of them
  pub blocker_is : (b : ℕ → Bool) → ((k : ℕ) → b k ≡ conflicts h asked i k) → blocker asker asked (slots_in t) ≡ lowest_in b 0 ss
  blocker_is b same =
      blocker_by h asker asked b 0 ss (λ k m e. let p : m ≡ k = omega arith in rw (p, same k) (block_at k (get_or ss k Free) refl (cases_eq k i)))

  -- Nobody blocks where nobody says no.
  pub no_blocker : ((k : ℕ) → conflicts h asked i k ≡ false) → blocker asker asked (slots_in t) ≡ None
  no_blocker quiet = blocker_is (λ k. false) (λ k. sym (quiet k)) ∙ lowest_nobody 0 ss

  -- Somebody does where somebody says no.
  pub not_nobody : (b : ℕ → Bool) → ((k : ℕ) → b k ≡ conflicts h asked i k) → lowest_in b 0 ss ≡ None → (k : ℕ) → conflicts h asked i k ≡ false
  not_nobody b same e k = go (is_open (get_or ss k Free)) refl
    where
      go : (o : Bool) → is_open (get_or ss k Free) ≡ o → conflicts h asked i k ≡ false
      go true here = sym (same k) ∙ lowest_none b 0 ss e k k (omega arith) here
      go false shut = idle_conflicts h asked i k (t.idle k shut)

  -- Who is struck

  module _ (g : ℕ → Lock → Bool) (struck : ℕ → Bool) (granted : Granted h asked i g struck) where
    not_struck : struck i ≡ false
    not_struck = granted.signals_struck i ∙ self_signals h asked i

    pub mine_after : transaction_of (g i) x ≡ with_lock asker asked
    mine_after =
        ap (λ f. transaction_of f x)
        (fun_ext (λ l. granted.locks_after i l ∙ at_home (same_lock l asked) (eqb i i) (h i l) (struck i) (eq-eqb i i refl) not_struck))

    its_after : (k : ℕ) (y : Transaction) → k ≢ i → struck k ≡ false → transaction_of (g k) y ≡ transaction_of (h k) y
    its_after k y ne miss = ap (λ f. transaction_of f y) (fun_ext (λ l. granted.locks_after k l ∙ elsewhere (same_lock l asked) (eqb k i) (h k l) (struck k) (ne_eqb k i ne) miss))

    abbrev after : ModelSlot → ModelSlot
    after s = replace_slot (with_lock asker asked) (strike asker asked s)

    other_slot : (k : ℕ) (y : Transaction) → get_or ss k Free ≡ Open y → k ≢ i → (b : Bool) → struck k ≡ b
        → slot_of (g k) (abort_if b x.id (lock_number asked) (Open y)) ≡ replace_slot (with_lock asker asked) (cond b (aborted_slot y.id x.id (lock_number asked)) (open_slot (transaction_of (h k) y)))
    other_slot k y e ne true hit = rw (ne_eqb y.id x.id (λ q. numbers k y e ne (sym q)))
    other_slot k y e ne false miss = rw (ne_eqb y.id x.id (λ q. numbers k y e ne (sym q))) (ap open_slot (its_after k y ne miss))

    slot_after : (k : ℕ) (s : Slot) → get_or ss k Free ≡ s → (k ≡ i) ⊎ (k ≢ i) → slot_of (g k) (abort_if (struck k) x.id (lock_number asked) s) ≡ after (slot_of (h k) s)
    slot_after k Free e w = refl
    slot_after k (Aborted a b p) e (inl q) = cc
    slot_after k (Aborted a b p) e (inr ne) = rw (ne_eqb a x.id (λ q. differs k (Aborted a b p) e ne (eq-eqb a x.id q)))
    slot_after k (Open y) e (inl q) = let m : y ≡ x = cc in rw (q, m, not_struck, own_signals h asked i x, eq-eqb x.id x.id refl) (ap open_slot mine_after)
    slot_after k (Open y) e (inr ne) = rw (other_signals h asked i x k y ne (numbers k y e ne), ← granted.signals_struck k) (other_slot k y e ne (struck k) refl)

    -- The slots when the lock is granted
    pub slots_granted : (ts : List Slot) → length ts ≡ length ss → ((k : ℕ) → get_or ts k Free ≡ abort_if (struck k) x.id (lock_number asked) (get_or ss k Free))
        → slots_from g 0 ts ≡ replace (with_lock asker asked) (map (strike asker asked) (slots_in t))
    unfolding replace
    slots_granted ts same each =
        slots_mapped h g ss ts after same (λ k lt. ap (slot_of (g k)) (each k) ∙ slot_after k (get_or ss k Free) refl (cases_eq k i))
        ∙ sym (map-map (replace_slot (with_lock asker asked)) (strike asker asked) (slots_from h 0 ss))

    struck_at : (k : ℕ) (s : Slot) → get_or ss k Free ≡ s → (k ≡ i) ⊎ (k ≢ i) → signals_in asker asked (slot_of (h k) s) ≡ struck k
    struck_at k Free e w = sym (granted.signals_struck k ∙ idle_signals h asked i k (t.idle k (ap is_open e)))
    struck_at k (Aborted a b p) e w = sym (granted.signals_struck k ∙ idle_signals h asked i k (t.idle k (ap is_open e)))
    struck_at k (Open y) e (inl q) = let m : y ≡ x = cc in rw (q, m, not_struck) (own_signals h asked i x)
    struck_at k (Open y) e (inr ne) = other_signals h asked i x k y ne (numbers k y e ne) ∙ sym (granted.signals_struck k)

    pub struck_count : length (signalled asker asked (slots_in t)) ≡ count_below struck 16
    struck_count =
        counted h asker asked 0 ss struck 16 (λ k j e. let p : j ≡ k = omega arith in rw p (struck_at k (get_or ss k Free) refl (cases_eq k i))) (few_used t.slots)

    abort_open : (b : Bool) (n p : ℕ) (s : Slot) → is_open (abort_if b n p s) ≡ false → (is_open s ≡ false) ⊎ (b ≡ true)
    abort_open b n p Free e = inl refl
    abort_open b n p (Aborted c d q) e = inl refl
    abort_open true n p (Open y) e = inr refl
    abort_open false n p (Open y) e = absurd (both_ways _ e refl)

    -- No lock is left in a slot that is not open.
    pub idle_granted : (ts : List Slot) (n p : ℕ) → ((k : ℕ) → get_or ts k Free ≡ abort_if (struck k) n p (get_or ss k Free)) → Idle ts g
    idle_granted ts n p each k shut l = granted.locks_after k l ∙ go (abort_open (struck k) n p (get_or ss k Free) (sym (ap is_open (each k)) ∙ shut))
      where
        go : (is_open (get_or ss k Free) ≡ false) ⊎ (struck k ≡ true) → ((same_lock l asked && eqb k i) || (h k l && not (struck k))) ≡ false
        go (inl was) = let a = t.idle k was l in let b : eqb k i ≡ false = ne_eqb k i (λ q. both_ways _ was (ap (λ n. is_open (get_or ss n Free)) q ∙ ap is_open mine)) in grind (arith, nat_tests)
        go (inr hit) = let b : eqb k i ≡ false = ne_eqb k i (λ q. both_ways _ not_struck (sym (ap struck q) ∙ hit)) in grind (arith, nat_tests)

    -- The asker's own slot stays.
    pub still_there : (ts : List Slot) (n p : ℕ) → ((k : ℕ) → get_or ts k Free ≡ abort_if (struck k) n p (get_or ss k Free)) → get_or ts i Free ≡ Open x
    still_there ts n p each = each i ∙ ap (abort_if (struck i) n p) mine ∙ ap (λ b. cond b (Aborted x.id n p) (Open x)) not_struck

-- The same for the one who asks, as the search has found it
module _ (t : Tables) (o : OpenSlot) (asked : Lock) (mine : OpenIn t o) where
  means : asker_in t o ≡ transaction_of (held t.locks o.slot.at) mine.transaction
  means = standing_is (held t.locks) (used t.slots) o mine

  pub blocker_found : (b : ℕ → Bool) → ((k : ℕ) → b k ≡ conflicts (held t.locks) asked o.slot.at k) → blocker (asker_in t o) asked (slots_in t) ≡ lowest_in b 0 (used t.slots)
  blocker_found b same = subst (λ x. blocker x asked (slots_in t) ≡ lowest_in b 0 (used t.slots)) (sym means) (blocker_is t o.slot.at mine.transaction asked mine.there b same)

  module _ (t' : Tables) (struck : ℕ → Bool) (granted : Granted (held t.locks) asked o.slot.at (held t'.locks) struck) (size : length (used t'.slots) ≡ length (used t.slots))
      (each : (k : ℕ) → get_or (used t'.slots) k Free ≡ abort_if (struck k) o.id (lock_number asked) (get_or (used t.slots) k Free)) where
    abbrev i : ℕ
    i = o.slot.at

    abbrev x : Transaction
    x = mine.transaction

    same_each : (k : ℕ) → get_or (used t'.slots) k Free ≡ abort_if (struck k) x.id (lock_number asked) (get_or (used t.slots) k Free)
    same_each = rw mine.number each

    abbrev stands : OpenIn t' o
    stands = record { transaction = x; there = still_there t i x asked mine.there (held t'.locks) struck granted (used t'.slots) _ _ each; number = mine.number; subject = mine.subject }

    pub got : (n : ℕ) → n ≡ count_below struck 16 → t'.slots.counts ≡ t.slots.counts → Got t o asked n t'
    got n as_many kept =
        record {
          nobody_blocks = subst (λ y. blocker y asked (slots_in t) ≡ None) (sym means) (no_blocker t i x asked mine.there granted.nobody_conflicts);
          counts_struck = as_many ∙ sym (subst (λ y. length (signalled y asked (slots_in t)) ≡ count_below struck 16) (sym means) (struck_count t i x asked mine.there (held t'.locks) struck granted));
          slots_after = subst (λ y. slots_in t' ≡ replace (with_lock y asked) (map (strike y asked) (slots_in t))) (sym means) (slots_granted t i x asked mine.there (held t'.locks) struck granted (used t'.slots) size same_each);
          counts_kept = kept;
          still_open = stands;
          asker_after = standing_is (held t'.locks) (used t'.slots) o stands ∙ subst (λ y. transaction_of (held t'.locks i) x ≡ with_lock y asked) (sym means) (mine_after t i x asked mine.there (held t'.locks) struck granted);
        }
