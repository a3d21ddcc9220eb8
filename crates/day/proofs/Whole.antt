-- From an engine's work to the day that it did.
use Rattle.std.proofs.Common.{◌≡◌, ℕ, List, length, sym, ap, subst, ◌∙◌, arith}
use Rattle.std.proofs.lemmas.List.{length-take}
use Rattle.protocol.specs.declared.answer.Answer.{Answer}
use Rattle.protocol.specs.declared.request.Request.{Request}
use Rattle.stores.specs.declared.store.Store as store
use Rattle.rights.specs.declared.order.RightsOrder as order
use Rattle.serial.specs.Words.{Setup, Store, Laws, Change}
use Rattle.serial.specs.History.{Admitted}
use Rattle.serial.specs.OneDay.{history, morning, Worked, DayDone}
use Rattle.serial.specs.Writes.{day_changes}
use Rattle.serial.proofs.OneDay.{worked_day}
use Rattle.serial.proofs.Writes.{day_written}
use Rattle.engine.specs.declared.engine.Engine.{Engine}
use Rattle.engine.specs.Stores.{lists_of, first_cells, Wrote}
use Rattle.engine.specs.Engines.{setup_of, state_of, store_of, Works}
use Rattle.engine.proofs.Stepping.{all_cells}

-- An engine that has all cells of its store in the morning has them all in the evening.
all_there : (n m : ℕ) (s t : Store) → first_cells n s ≡ s → m ≡ n → length t.cells ≡ length s.cells → first_cells m t ≡ t
all_there n m s t whole same as_many =
    all_cells m t (omega (arith, length-take n s.cells, ap (λ u. length u.cells) whole))

-- An engine that was made for a day, and what it did
module _ {C R O : Type 0} (c : store.Ghosts C) (r : store.Ghosts R) (o : order.Ghosts O) (S : Setup) (laws : Laws S) (before : Store) (admitted : Admitted S (morning before))
    (e f : Engine C R O) (setup : setup_of o e ≡ S) (state : state_of c r e ≡ morning before) (lists : lists_of c r e.cells.now e.rights.now ≡ before)
    (rs : List Request) (bs : List Answer) (works : Works c r o e rs bs f) where
  day_worked : Worked S (morning before) rs bs (state_of c r f)
  day_worked = rw (setup, state) at works.worked

  ends : store_of c r f ≡ lists_of c r f.cells.now f.rights.now
  ends =
      all_there e.size f.size (lists_of c r e.cells.now e.rights.now) (lists_of c r f.cells.now f.rights.now)
      (ap (λ σ. σ.store) state ∙ sym lists) works.keeps_stores.same_size works.keeps_stores.as_many_cells

  pub day_of : DayDone S before (lists_of c r f.cells.now f.rights.now) rs bs
  day_of = worked_day laws day_worked ends admitted

  pub day_wrote : Wrote c r e.cells.now e.rights.now f.cells.now f.rights.now (day_changes (history rs bs))
  day_wrote = rw (setup, state, day_written laws day_worked admitted) at works.writes

-- What is said of the stores as the engine had them is said of them as their lender has them back.
module _ {C R : Type 0} (c : store.Ghosts C) (r : store.Ghosts R) {cells cells' : C} {rights rights' : R} where
  pub day_back : {S : Setup} {before : Store} {rs : List Request} {bs : List Answer} → cells' ≡ cells → rights' ≡ rights
      → DayDone S before (lists_of c r cells rights) rs bs → DayDone S before (lists_of c r cells' rights') rs bs
  day_back {S} {before} {rs} {bs} e f d =
      subst (λ x. DayDone S before (lists_of c r x rights') rs bs) (sym e) (subst (λ y. DayDone S before (lists_of c r cells y) rs bs) (sym f) d)

  pub wrote_back : {cells₀ cells₁ : C} {rights₀ rights₁ : R} {ks : List Change} → cells₁ ≡ cells₀ → rights₁ ≡ rights₀ → cells' ≡ cells → rights' ≡ rights
      → Wrote c r cells₁ rights₁ cells rights ks → Wrote c r cells₀ rights₀ cells' rights' ks
  wrote_back {cells₀} {cells₁} {rights₀} {rights₁} {ks} e f g h w =
      subst (λ x. Wrote c r cells₀ rights₀ x rights' ks) (sym g)
      (subst (λ y. Wrote c r cells₀ rights₀ cells y ks) (sym h)
      (subst (λ x. Wrote c r x rights₀ cells rights ks) e
      (subst (λ y. Wrote c r cells₁ y cells rights ks) f w)))
