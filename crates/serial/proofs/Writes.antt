-- A worked day writes the changes of its committed transactions, in the order of their commits.
use Rattle.std.proofs.Common.{◌≡◌, ℕ, List, [], ◌∷◌, ◌++◌, sym, refl, ap, ◌∙◌, inl, inr}
use Rattle.std.proofs.lemmas.List.{append_assoc, append-nil}
use Rattle.protocol.specs.declared.answer.Answer.{Answer}
use Rattle.protocol.specs.declared.request.Request.{Request}
use Rattle.serial.specs.Words.{Setup, Laws, Store, Change, Member}
use Rattle.serial.specs.Requests.{Asked, asks_open, asks_call, asks_commit, asks_give_up, asked}
use Rattle.serial.specs.Model.{State, Slot, free, open_slot, aborted_slot, find, commit_in, give_up_in, perform, answer, after}
use Rattle.serial.specs.Serial.{Transcript}
use Rattle.serial.specs.History.{History, effect_of, transcript_with, transcript, committed_with, committed, Run, start, then, Admitted}
use Rattle.serial.specs.Writes.{changes_of_all, day_changes, slot_changes, changes_by, changes_from, answers_from}
use Rattle.serial.specs.OneDay.{recorded, history, morning, Worked, DayIsWritten}
use Rattle.serial.proofs.Invariant.{Inv, done_kept, done_same}
use Rattle.serial.proofs.Steps.{open_outcome, call_outcome, count}
use Rattle.serial.proofs.Kept.{run_holds}
use Rattle.serial.proofs.OneDay.{worked_in_turn}

-- the changes depend only on the transcripts of the list
changes_same : (transcripts transcripts' : ℕ → Transcript) (ts : List ℕ)
    → ((t : ℕ) → Member t ts → transcripts' t ≡ transcripts t)
    → changes_of_all transcripts' ts ≡ changes_of_all transcripts ts
unfolding changes_of_all
changes_same transcripts transcripts' [] e = refl
changes_same transcripts transcripts' (t ∷ ts) e =
    rw (e t (inl refl), changes_same transcripts transcripts' ts (λ u m. e u (inr m))) refl

-- A request adds to the changes of the committed transactions what it writes.
abbrev Adds : (ℕ → Transcript) → List ℕ → State → Asked → Answer × State → Type 0
Adds transcripts ts σ k w =
    changes_of_all (λ u. transcript_with (effect_of k w.0) u (transcripts u)) (committed_with (effect_of k w.0) ts)
    ≡ changes_of_all transcripts ts ++ changes_by σ k w.0

module _ (S : Setup) (s₀ : Store) (transcripts : ℕ → Transcript) (ts : List ℕ) (σ : State)
    (inv : Inv S s₀ transcripts ts σ.store σ.slots σ.opened) where
  nothing_more : changes_of_all transcripts ts ≡ changes_of_all transcripts ts ++ []
  nothing_more = sym (append-nil (changes_of_all transcripts ts))

  commit_adds : (t : ℕ) (w : Slot) → find t σ.slots ≡ w → Adds transcripts ts σ (asks_commit t) (commit_in σ t w)
  unfolding commit_in changes_of_all
  commit_adds t free e = nothing_more
  commit_adds t (open_slot x) e =
      ap (λ ks. changes_of_all transcripts ts ++ ks) (sym (inv.fits t x e).changes_by_calls ∙ ap slot_changes (sym e))
  commit_adds t (aborted_slot i b p) e = nothing_more

  give_up_adds : (t : ℕ) (w : Slot) → Adds transcripts ts σ (asks_give_up t) (give_up_in σ t w)
  unfolding give_up_in
  give_up_adds t free = nothing_more
  give_up_adds t (open_slot x) = nothing_more
  give_up_adds t (aborted_slot i b p) = nothing_more

  step_adds : (k : Asked) → Adds transcripts ts σ k (perform S σ k)
  unfolding perform
  step_adds (asks_open u) =
      open_outcome (Adds transcripts ts σ (asks_open u)) S σ u (λ f. nothing_more)
      (λ a.
      let kept = done_same S s₀ transcripts ts σ.store σ.slots σ.opened inv u a in
      changes_same transcripts _ ts kept ∙ nothing_more)
  step_adds (asks_call t c) =
      call_outcome (Adds transcripts ts σ (asks_call t c)) S σ t c
      (λ e. nothing_more) (λ i b p e. nothing_more) (λ x f e. nothing_more) (λ x u e. nothing_more)
      (λ x e j b.
      let kept = done_kept S s₀ transcripts ts σ.store σ.slots σ.opened inv t x c e j b (count S σ x c) in
      changes_same transcripts _ ts kept ∙ nothing_more)
  step_adds (asks_commit t) = commit_adds t (find t σ.slots) refl
  step_adds (asks_give_up t) = give_up_adds t (find t σ.slots)

module _ (S : Setup) (laws : Laws S) (σ₀ : State) (adm : Admitted S σ₀) where
  -- requests after a run add what they write in turn
  requests_add : (rs : List Request) {h : History} {σ : State} → Run S σ₀ h σ
      → day_changes (recorded rs (answers_from S σ rs) h) ≡ day_changes h ++ changes_from S σ rs
  unfolding answers_from changes_from transcript committed
  requests_add [] {h} run = sym (append-nil (day_changes h))
  requests_add (r ∷ rs) {h} {σ} run =
      let later : List Change = changes_from S (after S σ r) rs in
      let one = step_adds S σ₀.store (transcript h) (committed h) σ (run_holds S laws σ₀ adm run) (asked r) in
      requests_add rs (then run r)
      ∙ (ap (λ ks. ks ++ later) one ∙ append_assoc (day_changes h) (changes_by σ (asked r) (answer S σ r)) later)

pub day_written : {S : Setup} → Laws S → {before : Store} {rs : List Request} {bs : List Answer} {σ : State}
    → Worked S (morning before) rs bs σ → Admitted S (morning before)
    → changes_from S (morning before) rs ≡ day_changes (history rs bs)
unfolding changes_of_all committed
day_written {S} laws {before} {rs} w adm =
    rw (worked_in_turn w).answered_in_turn (sym (requests_add S laws (morning before) adm rs start))

pub day_is_written : DayIsWritten
day_is_written S laws before adm requests answers evening w = day_written laws w adm
