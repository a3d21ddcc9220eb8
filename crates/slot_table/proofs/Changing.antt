-- An open transaction has one change more. Assumes nothing.
use Rattle.std.proofs.Common.{◌≡◌, ℕ, ◌+◌, ◌<◌, ◌≤◌, Bool, true, false, cond, List, length, get_or, take, set, count_by, sym, refl, ap, ◌∙◌, subst, arith, ⊎_elim}
use Rattle.std.proofs.Math.ListN.{get_or-map}
use Rattle.std.proofs.lemmas.Grind.{common_steps}
use Rattle.std.proofs.lemmas.List.{length-set, length-map, length-take-le, get_or-take, set-get_or}
use Rattle.std.proofs.lemmas.Bool.{cases_eq, eq-eqb}
use Rattle.protocol.specs.declared.policy.Object.{Object}
use Rattle.workspace.specs.declared.workspace.Workspace.{Workspace}
use Rattle.workspace.specs.Workspaces.{changes_of}
use Rattle.serial.specs.Changes.{put, room}
use Rattle.serial.specs.Locks.{Lock}
use Rattle.serial.specs.Model.{free, open_slot, replace, replace_slot, Transaction as ModelTransaction}
use Rattle.slot_table.specs.declared.slot.Transaction.{Transaction}
use Rattle.slot_table.specs.declared.slot.Slot.{Slot}
use Rattle.slot_table.specs.declared.slot.Slot.TheVariants.{Free, Open, Aborted}
use Rattle.slot_table.specs.Slots.{transaction_of, slot_of, slots_from, slot_named, is_open, Apart, Numbered, Follows}
use Rattle.slot_table.specs.declared.slot_table.SlotTable.{SlotTable}
use Rattle.slot_table.specs.Tables.{used, slot_at}
use Rattle.slot_table.specs.Edits.{with_change, Puts, put_in}
use Rattle.slot_table.proofs.SlotLists.{length_slots_from, slots_from_at, slots_ext, slots_from_ext, named_of, used_set}
use Rattle.slot_table.proofs.Invariants.{apart_at, turned}
use Rattle.slot_table.proofs.Ending.{open_inside}

module _ (us : List Slot) (i : ℕ) (x : Transaction) (w : Workspace) (is : Open x ≡ get_or us i Free) where
  abbrev y : Transaction
  y = record { id = x.id; subject = x.subject; workspace = w }

  inside : i < length us
  inside = open_inside us i (ap is_open (sym is))

  changed_kinds : (k : ℕ) → is_open (get_or (set us i (Open y)) k Free) ≡ is_open (get_or us k Free)
  changed_kinds k =
      let within = inside in
      grind (arith, common_steps)

  module _ (apart : Apart us) (h : ℕ → Lock → Bool) where
    same_slots : changes_of w ≡ changes_of x.workspace → slots_from h 0 (set us i (Open y)) ≡ slots_from h 0 us
    same_slots e =
        let within = inside in
        slots_from_ext h h us (set us i (Open y)) (length-set us i (Open y))
        (λ k. let t : transaction_of (h k) y ≡ transaction_of (h k) x = ap (λ cs. record { number = x.id; subject = x.subject; holds = h k; changes = cs }) e in grind (arith, common_steps))

    module _ (o : Object) (v : ℕ) where
      replaced : changes_of w ≡ put o v (changes_of x.workspace) → slots_from h 0 (set us i (Open y)) ≡ replace (with_change o v (transaction_of (h i) x)) (slots_from h 0 us)
      unfolding replace
      replaced changes =
          slots_ext _ _
          (length_slots_from h 0 (set us i (Open y)) ∙ length-set us i (Open y) ∙ sym (length-map (slots_from h 0 us) (replace_slot X) ∙ length_slots_from h 0 us))
          (λ k. slots_from_at h (set us i (Open y)) k ∙ each k ∙ sym (get_or-map (replace_slot X) (slots_from h 0 us) k free ∙ ap (replace_slot X) (slots_from_at h us k)))
        where
          X : ModelTransaction
          X = with_change o v (transaction_of (h i) x)

          written : slot_of (h i) (Open y) ≡ open_slot X
          written = ap (λ cs. open_slot (record { number = x.id; subject = x.subject; holds = h i; changes = cs })) changes

          each : (k : ℕ) → slot_of (h k) (get_or (set us i (Open y)) k Free) ≡ replace_slot X (slot_of (h k) (get_or us k Free))
          each k =
              let within = inside in
              let mine : slot_named (get_or us i Free) x.id ≡ true = ap (λ s. slot_named s x.id) (sym is) ∙ eq-eqb x.id x.id refl in
              ⊎_elim
              (λ (e : k ≡ i). grind (arith, common_steps, written, named_of (h k) (get_or us k Free) x.id))
              (λ ne. grind (arith, common_steps, named_of (h k) (get_or us k Free) x.id, apart_at us apart k i x.id))
              (cases_eq k i)

      by_room : (b : Bool) → changes_of w ≡ cond b (put o v (changes_of x.workspace)) (changes_of x.workspace)
          → slots_from h 0 (set us i (Open y)) ≡ cond b (replace (with_change o v (transaction_of (h i) x)) (slots_from h 0 us)) (slots_from h 0 us)
      by_room true e = replaced e
      by_room false e = same_slots e

      changed_slots : changes_of w ≡ cond (room (changes_of x.workspace) o) (put o v (changes_of x.workspace)) (changes_of x.workspace)
          → slots_from h 0 (set us i (Open y)) ≡ put_in (h i) o v (Open x) (slots_from h 0 us)
      changed_slots e = by_room (room (changes_of x.workspace) o) e

-- A slot that a change is put into, whether it is open or not
pub puts_follows : (o : Object) (v : ℕ) (old new : Slot) → Puts o v old new → Follows old new
puts_follows o v Free new e = rw e (record { number = λ t q. q; opens = λ q. q })
puts_follows o v (Open x) new p = rw p.1 (record { number = λ t q. q; opens = λ q. q })
puts_follows o v (Aborted a b q) new e = rw e (record { number = λ t q. q; opens = λ q. q })

module _ (us : List Slot) (i : ℕ) (s : Slot) (o : Object) (v : ℕ) where
  pub put_kinds : Puts o v (get_or us i Free) s → (k : ℕ) → is_open (get_or (set us i s) k Free) ≡ is_open (get_or us k Free)
  put_kinds = go (get_or us i Free) refl
    where
      go : (old : Slot) → old ≡ get_or us i Free → Puts o v old s → (k : ℕ) → is_open (get_or (set us i s) k Free) ≡ is_open (get_or us k Free)
      go Free is e k = ap (λ vs. is_open (get_or vs k Free)) (ap (set us i) (e ∙ is) ∙ set-get_or us i Free)
      go (Open x) is p k = rw p.1 (changed_kinds us i x p.0 is k)
      go (Aborted a b q) is e k = ap (λ vs. is_open (get_or vs k Free)) (ap (set us i) (e ∙ is) ∙ set-get_or us i Free)

  pub put_slots : Apart us → (h : ℕ → Lock → Bool) → Puts o v (get_or us i Free) s → slots_from h 0 (set us i s) ≡ put_in (h i) o v (get_or us i Free) (slots_from h 0 us)
  put_slots apart h = go (get_or us i Free) refl
    where
      go : (old : Slot) → old ≡ get_or us i Free → Puts o v old s → slots_from h 0 (set us i s) ≡ put_in (h i) o v old (slots_from h 0 us)
      go Free is e = ap (slots_from h 0) (ap (set us i) (e ∙ is) ∙ set-get_or us i Free)
      go (Open x) is p = rw p.1 (changed_slots us i x p.0 is apart h o v p.2)
      go (Aborted a b q) is e = ap (slots_from h 0) (ap (set us i) (e ∙ is) ∙ set-get_or us i Free)

-- the table with a change in one of its slots in use
module _ (t : SlotTable) (i : ℕ) (o : Object) (v : ℕ) (before : i < t.limit) (ss : List Slot) where
  abbrev s : Slot
  s = get_or ss i Free

  pub put_inside : i < length (used t)
  put_inside = let whole = t.sized in let within = t.within in omega (arith, length-take-le t.limit t.slots (omega arith))

  module _ (here : Puts o v (get_or t.slots i Free) s) (others : ss ≡ set t.slots i s) where
    pub put_used : take t.limit ss ≡ set (used t) i s
    put_used = ap (take t.limit) others ∙ used_set t i s put_inside

    pub put_here : Puts o v (slot_at t i) s
    put_here = subst (λ z. Puts o v z s) (sym (get_or-take t.limit t.slots i Free before)) here

    abbrev pub put_table : SlotTable
    put_table =
        let n = turned t i s put_inside (puts_follows o v (slot_at t i) s put_here) in
        let same = sym others in
        record {
          slots = ss;
          limit = t.limit;
          counts = t.counts;
          sized = ap length others ∙ n.sized;
          within = t.within;
          numbered = t.numbered;
          counted = subst (λ vs. t.counts.commits + count_by is_open (take t.limit vs) ≤ t.counts.opened) same n.counted;
          known = subst (λ vs. Numbered t.counts.opened (take t.limit vs)) same n.known;
          apart = subst (λ vs. Apart (take t.limit vs)) same n.apart;
        }
