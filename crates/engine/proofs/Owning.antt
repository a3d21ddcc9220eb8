-- Open transactions change no cell that is not the engine's, and their changes leave those cells as they are.
use Rattle.std.proofs.Common.{◌≡◌, ℕ, zero, suc, ◌≤◌, Bool, true, false, cond, ◌&&◌, List, [], ◌∷◌, map, length, get_or, set, drop, None, Ok, Err, Result, sym, refl, ap, ap₂, ◌∙◌, subst, arith, ltb-true}
use Rattle.std.specs.List.{list_all}
use Rattle.std.proofs.lemmas.Bool.{and_from, and_parts, both_ways}
use Rattle.std.proofs.lemmas.Bool.Decides.{nat_tests}
use Rattle.std.proofs.lemmas.List.{drop-set-lt}
use Rattle.protocol.specs.declared.policy.Object.{Object}
use Rattle.protocol.specs.declared.policy.Object.TheVariants.{OfCell, OfPolicy}
use Rattle.serial.specs.Words.{Setup, Store, Change, Call, Deploys, Reads, Writes, Shows, Sets, same_object}
use Rattle.serial.specs.Changes.{put, store_at, apply}
use Rattle.serial.specs.Locks.{Lock}
use Rattle.serial.specs.Model.{State, Slot, Transaction, free, open_slot, aborted_slot, named, is_free, is_signal, verdict, new_transaction, place, replace_slot, replace, free_slot, end, strike, changed, judge, lock_for, advance, open_in}
use Rattle.serial.specs.Writes.{slot_changes}
use Rattle.lock_table.specs.Held.{held}
use Rattle.slot_table.specs.declared.slot.Slot.{Slot as TableSlot}
use Rattle.slot_table.specs.declared.slot.Slot.TheVariants.{Free, Open, Aborted}
use Rattle.slot_table.specs.Slots.{slot_of, slots_from, changes_in}
use Rattle.slot_table.specs.Tables.{used, changes_at}
use Rattle.slot_table.proofs.SlotLists.{slots_from_at}
use Rattle.slot_table.specs.declared.slot.OpenSlot.{OpenSlot}
use Rattle.engine.specs.declared.tables.Tables.{Tables}
use Rattle.engine.specs.declared.denial.Denial.{Denial}
use Rattle.engine.specs.declared.denial.Denial.TheVariants.{Refused, Waits}
use Rattle.engine.specs.Asking.{with_lock}
use Rattle.engine.specs.Owning.{is_own, all_own, OwnCells}
use Rattle.engine.specs.Tables.{slots_in, asker_in, Acquires, Got, NotedCall}
use Rattle.engine.proofs.Calls.{row_there}
use Rattle.engine.proofs.Stepping.{state_granted}

-- A test that all pass
module _ {A : Type 0} (p : A → Bool) where
  all_mapped : (f : A → A) (l : List A) → ((a : A) → p a ≡ true → p (f a) ≡ true) → list_all p l ≡ true → list_all p (map f l) ≡ true
  all_mapped f [] each all = refl
  all_mapped f (a ∷ l) each all = let h = and_parts (p a) (list_all p l) all in and_from _ _ (each a h.0) (all_mapped f l each h.1)

  all_set : (l : List A) (i : ℕ) (a : A) → p a ≡ true → list_all p l ≡ true → list_all p (set l i a) ≡ true
  all_set [] i a here all = all
  all_set (b ∷ l) zero a here all = and_from _ _ here (and_parts (p b) (list_all p l) all).1
  all_set (b ∷ l) (suc i) a here all = let h = and_parts (p b) (list_all p l) all in and_from _ _ h.0 (all_set l i a here h.1)

  all_at : (l : List A) (i : ℕ) (d : A) → p d ≡ true → list_all p l ≡ true → p (get_or l i d) ≡ true
  all_at [] i d none all = none
  all_at (a ∷ l) zero d none all = (and_parts (p a) (list_all p l) all).0
  all_at (a ∷ l) (suc i) d none all = all_at l i d none (and_parts (p a) (list_all p l) all).1

  either : (b : Bool) (x y : A) → p x ≡ true → p y ≡ true → p (cond b x y) ≡ true
  either true x y h k = h
  either false x y h k = k

module _ (n : ℕ) where
  -- One change more
  own_put : (o : Object) (v : ℕ) (ks : List Change) → is_own n o ≡ true → all_own n ks ≡ true → all_own n (put o v ks) ≡ true
  unfolding put
  own_put o v [] own all = and_from _ _ own refl
  own_put o v (k ∷ ks) own all =
      let h = and_parts (is_own n k.object) (all_own n ks) all in
      either (all_own n) (same_object k.object o) _ _ (and_from _ _ own h.1) (and_from _ _ h.0 (own_put o v ks own h.1))

  -- A call that is judged fine changes no cell that is not there.
  pub own_changed : (S : Setup) (s : Store) (x : Transaction) (c : Call) → None ≡ judge S s x c → length s.cells ≤ n
      → all_own n x.changes ≡ true → all_own n (changed c x.changes) ≡ true
  unfolding judge
  own_changed S s x (Deploys p) fine few all = all
  own_changed S s x (Reads c) fine few all = all
  own_changed S s x (Writes c v) fine few all = own_put (OfCell c) v x.changes (grind (arith, nat_tests)) all
  own_changed S s x (Shows p) fine few all = all
  own_changed S s x (Sets p v) fine few all = own_put (OfPolicy p) v x.changes refl all

  -- The slots over a call
  abbrev own : Slot → Bool
  own s = all_own n (slot_changes s)

  own_strike : (x : Transaction) (asked : Lock) (s : Slot) → own s ≡ true → own (strike x asked s) ≡ true
  own_strike x asked free all = refl
  own_strike x asked (open_slot y) all = either own (is_signal (verdict x asked y)) _ _ refl all
  own_strike x asked (aborted_slot i b p) all = refl

  pub own_struck : (x y : Transaction) (asked : Lock) (l : List Slot) → all_own n x.changes ≡ true → OwnCells n l → OwnCells n (replace x (map (strike y asked) l))
  unfolding replace
  own_struck x y asked l all owned =
      all_mapped own (replace_slot x) (map (strike y asked) l) (λ s h. either own (named s x.number) _ _ all h) (all_mapped own (strike y asked) l (own_strike y asked) owned)

  pub own_ended : (t : ℕ) (l : List Slot) → OwnCells n l → OwnCells n (end t l)
  unfolding end
  own_ended t l owned = all_mapped own (free_slot t) l (λ s h. either own (named s t) _ _ refl h) owned

  own_placed : (x : Transaction) (l : List Slot) → all_own n x.changes ≡ true → OwnCells n l → OwnCells n (place x l)
  unfolding place
  own_placed x [] all owned = owned
  own_placed x (s ∷ l) all owned =
      let h = and_parts (own s) (list_all own l) owned in
      either (list_all own) (is_free s) _ _ (and_from _ _ all h.1) (and_from _ _ h.0 (own_placed x l all h.1))

  pub own_opened : (σ : State) (u : ℕ) (few room : Bool) → OwnCells n σ.slots → OwnCells n (open_in σ u few room).1.slots
  unfolding open_in
  own_opened σ u false room owned = owned
  own_opened σ u true false owned = owned
  own_opened σ u true true owned = own_placed (new_transaction (suc σ.opened) u) σ.slots refl owned

  -- The tables' slots, one by one
  same_changes : (h : Lock → Bool) (s : TableSlot) → slot_changes (slot_of h s) ≡ changes_in s
  same_changes h Free = refl
  same_changes h (Open x) = refl
  same_changes h (Aborted i b p) = refl

  pub own_at : (t : Tables) (k : ℕ) → OwnCells n (slots_in t) → all_own n (changes_at t.slots k) ≡ true
  own_at t k owned =
      ap (all_own n) (sym (same_changes (held t.locks k) (get_or (used t.slots) k Free)) ∙ ap slot_changes (sym (slots_from_at (held t.locks) (used t.slots) k)))
      ∙ all_at own (slots_in t) k free refl owned

  abbrev own_in : TableSlot → Bool
  own_in s = all_own n (changes_in s)

  own_from : (h : ℕ → Lock → Bool) (k : ℕ) (ss : List TableSlot) → list_all own (slots_from h k ss) ≡ list_all own_in ss
  unfolding slots_from
  own_from h k [] = refl
  own_from h k (s ∷ ss) = ap₂ (λ a b. a && b) (ap (all_own n) (same_changes (h k) s)) (own_from h (suc k) ss)

  -- A slot is freed, whatever stood in it.
  pub own_freed : (t t' : Tables) (at : ℕ) → used t'.slots ≡ set (used t.slots) at Free → OwnCells n (slots_in t) → OwnCells n (slots_in t')
  own_freed t t' at freed owned =
      own_from (held t'.locks) 0 (used t'.slots) ∙ ap (list_all own_in) freed
      ∙ all_set own_in (used t.slots) at Free refl (sym (own_from (held t.locks) 0 (used t.slots)) ∙ owned)

  -- A call of an open transaction
  module _ (S : Setup) (s : Store) (few : length s.cells ≤ n) (t t' : Tables) (o : OpenSlot) (c : Call) (fine : None ≡ judge S s (asker_in t o) c) (lock : Lock)
      (owned : OwnCells n (slots_in t)) where
    -- asks for its lock,
    pub own_acquired : (r : Result ℕ Denial) → lock ≡ lock_for S s c → length s.cells ≤ 256 → length S.policies ≤ 64 → Acquires t o lock r t' → OwnCells n (slots_in t')
    own_acquired (Ok k) asked few_cells few_policies got =
        subst (OwnCells n) (sym got.slots_after) (own_struck (with_lock (asker_in t o) lock) (asker_in t o) lock (slots_in t) (own_at t o.slot.at owned) owned)
    own_acquired (Err (Refused f)) asked few_cells few_policies told =
        let there = rw (← asked) at (row_there S s (asker_in t o) c fine few_cells few_policies) in absurd (both_ways _ told.1 there)
    own_acquired (Err (Waits u)) asked few_cells few_policies told = rw (told.1, told.2) owned

    -- and its change is noted.
    pub own_noted : (t'' : Tables) (k : ℕ) → Got t o lock k t' → NotedCall t' o c t'' → OwnCells n (slots_in t'')
    unfolding advance
    own_noted t'' k got noted =
        subst (OwnCells n) (sym (ap (λ σ. σ.slots) (state_granted S s t t' t'' o lock k got c fine noted)))
        (own_struck (advance (asker_in t o) lock c) (asker_in t o) lock (slots_in t) (own_changed S s (asker_in t o) c fine few (own_at t o.slot.at owned)) owned)

-- Own changes leave all other cells as they are.
stored_beyond : (n : ℕ) (s : Store) (o : Object) (v : ℕ) → is_own n o ≡ true → drop n (store_at s o v).cells ≡ drop n s.cells
stored_beyond n s (OfCell c) v own = drop-set-lt n s.cells c v (ltb-true c n own)
stored_beyond n s (OfPolicy p) v own = refl

pub applied_beyond : (n : ℕ) (ks : List Change) (s : Store) → all_own n ks ≡ true → drop n (apply ks s).cells ≡ drop n s.cells
unfolding apply
applied_beyond n [] s all = refl
applied_beyond n (k ∷ ks) s all =
    let h = and_parts (is_own n k.object) (all_own n ks) all in
    applied_beyond n ks (store_at s k.object k.value) h.1 ∙ stored_beyond n s k.object k.value h.0
