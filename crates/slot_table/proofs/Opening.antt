-- A transaction is opened in the first free slot. Assumes nothing.
use Rattle.std.proofs.Common.{◌≡◌, ℕ, suc, ◌+◌, ◌<◌, ◌≤◌, Bool, false, ltb, List, [], length, get_or, set, count_by, refl, subst, Some, None, sym, ap, ◌∙◌, ap₂, arith}
use mathlib.Core.Path.{fun_ext}
use Rattle.std.specs.List.{position}
use Rattle.std.proofs.lemmas.Bool.Decides.{nat_tests}
use Rattle.std.proofs.lemmas.Grind.{common_steps}
use Rattle.std.proofs.lemmas.Bool.{lt-ltb}
use Rattle.protocol.specs.declared.answer.Answer.TheVariants.{Granted, Refused}
use Rattle.protocol.specs.declared.refusal.Refusal.TheVariants.{TooManyOpened, NoFreeSlot}
use Rattle.workspace.specs.declared.workspace.Workspace.{Workspace}
use Rattle.workspace.specs.Workspaces.{changes_of}
use Rattle.serial.specs.Words.{Store}
use Rattle.serial.specs.Locks.{Lock}
use Rattle.serial.specs.Model.{State, open_slot, new_transaction, place, any_free, open_in}
use Rattle.slot_table.specs.declared.slot.Transaction.{Transaction}
use Rattle.slot_table.specs.declared.slot.Slot.{Slot}
use Rattle.slot_table.specs.declared.slot.Slot.TheVariants.{Free, Open}
use Rattle.slot_table.specs.Slots.{slots_from, is_open, is_free, Idle, Numbered, Apart}
use Rattle.slot_table.specs.declared.slot_table.SlotTable.{SlotTable}
use Rattle.slot_table.specs.Tables.{used}
use Rattle.slot_table.proofs.Invariants.{opened_numbered, opened_apart, opened_count}
use Rattle.std.proofs.lemmas.List.{length-set}
use Rattle.slot_table.proofs.SlotLists.{slots_from_set, used_set}
use Rattle.slot_table.proofs.Searches.{placed, none_free, some_free, free_there}

pub refused_number : (σ : State) (u : ℕ) (b : Bool) → 50000 ≤ σ.opened → (Refused TooManyOpened, σ) ≡ open_in σ u (ltb σ.opened 50000) b
unfolding open_in
refused_number σ u b l = grind (arith, nat_tests)

pub refused_slot : (us : List Slot) (h : ℕ → Lock → Bool) (σ : State) (u : ℕ) → None ≡ position is_free us → σ.opened < 50000
    → (Refused NoFreeSlot, σ) ≡ open_in σ u (ltb σ.opened 50000) (any_free (slots_from h 0 us))
unfolding open_in
refused_slot us h σ u none l = grind (arith, nat_tests, none_free h us)

module _ (us : List Slot) (n : ℕ) (at : Some n ≡ position is_free us) where
  pub inside : n < length us
  inside = (free_there us n at).0

  pub free_off : is_open (get_or us n Free) ≡ false
  free_off = ap is_open (free_there us n at).1

  pub opened_idle : (h : ℕ → Lock → Bool) (x : Transaction) → Idle us h → Idle (set us n (Open x)) h
  opened_idle h x idle k off l =
      let within = inside in
      grind (arith, common_steps, idle k)

  module _ (h : ℕ → Lock → Bool) (idle : Idle us h) (m u : ℕ) (w : Workspace) (empty : changes_of w ≡ []) where
    opened_slots : slots_from h 0 (set us n (Open (record { id = m + 1; subject = u; workspace = w }))) ≡ place (new_transaction (suc m) u) (slots_from h 0 us)
    opened_slots =
        let number : m + 1 ≡ suc m = omega arith in
        let here : 0 + n ≡ n = omega arith in
        let locks : h (0 + n) ≡ (λ l. false) = ap h here ∙ fun_ext (idle n free_off) in
        slots_from_set h 0 us n _
        ∙ ap (set (slots_from h 0 us) n) (λ i. open_slot (record { number = number i; subject = u; holds = locks i; changes = empty i }))
        ∙ sym (placed us n at h (new_transaction (suc m) u))

    pub granted : (s : Store) (c r : ℕ) → r ≡ m + 1 → m < 50000
        → (Granted r, record { store = s; slots = slots_from h 0 (set us n (Open (record { id = m + 1; subject = u; workspace = w }))); opened = m + 1; commits = c })
        ≡ open_in (record { store = s; slots = slots_from h 0 us; opened = m; commits = c }) u (ltb m 50000) (any_free (slots_from h 0 us))
    unfolding open_in
    granted s c r is l =
        let number : m + 1 ≡ suc m = omega arith in
        let answer : r ≡ suc m = is ∙ number in
        (λ i. (Granted (answer i), record { store = s; slots = opened_slots i; opened = number i; commits = c }))
        ∙ sym (ap₂ (open_in (record { store = s; slots = slots_from h 0 us; opened = m; commits = c }) u) (lt-ltb m 50000 l) (some_free us n at h))

-- the table after that
abbrev pub next_transaction : SlotTable → ℕ → Workspace → Transaction
next_transaction t u w = record { id = t.counts.opened + 1; subject = u; workspace = w }

abbrev pub opened : (t : SlotTable) (n : ℕ) → Some n ≡ position is_free (used t) → ℕ → Workspace → t.counts.opened < 50000 → SlotTable
opened t n at u w l =
    let us = used t in
    let x = next_transaction t u w in
    let new = sym (used_set t n (Open x) (inside us n at)) in
    let more = opened_count us t.counts.opened n x refl (inside us n at) t.known (free_off us n at) in
    record {
      slots = set t.slots n (Open x);
      limit = t.limit;
      counts = record { opened = t.counts.opened + 1; commits = t.counts.commits };
      sized = length-set t.slots n (Open x) ∙ t.sized;
      within = t.within;
      numbered = omega arith;
      counted = subst (λ vs. t.counts.commits + count_by is_open vs ≤ t.counts.opened + 1) new (omega arith);
      known = subst (Numbered (t.counts.opened + 1)) new (opened_numbered us t.counts.opened n x refl (inside us n at) t.known);
      apart = subst Apart new (opened_apart us t.counts.opened n x refl (inside us n at) t.known t.apart);
    }
