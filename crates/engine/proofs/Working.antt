-- Requests that an engine makes one after another.
use Rattle.std.proofs.Common.{◌≡◌, ℕ, ◌+◌, ◌<◌, List, [], ◌∷◌, ◌++◌, length, get_or, take, set, refl, ap, ◌∙◌}
use Rattle.std.proofs.lemmas.List.{take_more, take_more_set}
use Rattle.protocol.specs.declared.answer.Answer.{Answer}
use Rattle.protocol.specs.declared.request.Request.{Request}
use Rattle.stores.specs.declared.store.Store as store
use Rattle.rights.specs.declared.order.RightsOrder as order
use Rattle.stores.specs.Writes.{Written}
use Rattle.serial.specs.Model.{State, step, answer}
use Rattle.serial.specs.Writes.{NoneCommitted, changes_from, to_cells, to_rights}
use Rattle.serial.proofs.OneDay.{worked_none, worked_push, worked_in_turn, written_push, nothing_written}
use Rattle.engine.specs.declared.engine.Engine.{Engine}
use Rattle.engine.specs.Engines.{state_of, setup_of, Keeps, Works, Steps}
use Rattle.engine.proofs.Writing.{wrote_none, wrote_both}

module _ {C R O : Type 0} {c : store.Ghosts C} {r : store.Ghosts R} where
  pub keeps_none : (e : Engine C R O) → Keeps c r e e
  keeps_none e = record {
    same_cells = refl;
    same_rights = refl;
    lent = record { by_cells = refl; by_rights = refl };
    as_many_cells = refl;
    as_many_rights = refl;
    same_size = refl;
    other_cells_stay = refl;
  }

  keeps_both : {e m f : Engine C R O} → Keeps c r e m → Keeps c r m f → Keeps c r e f
  keeps_both k l = record {
    same_cells = l.same_cells ∙ k.same_cells;
    same_rights = l.same_rights ∙ k.same_rights;
    lent = record { by_cells = l.lent.by_cells ∙ k.lent.by_cells; by_rights = l.lent.by_rights ∙ k.lent.by_rights };
    as_many_cells = l.as_many_cells ∙ k.as_many_cells;
    as_many_rights = l.as_many_rights ∙ k.as_many_rights;
    same_size = l.same_size ∙ k.same_size;
    other_cells_stay = (rw k.same_size at l.other_cells_stay) ∙ k.other_cells_stay;
  }

module _ {C R O : Type 0} {c : store.Ghosts C} {r : store.Ghosts R} {o : order.Ghosts O} where
  pub works_none : (e : Engine C R O) → Works c r o e [] [] e
  unfolding changes_from
  works_none e = record {
    worked = worked_none;
    in_turn = worked_in_turn worked_none;
    same_setup = refl;
    keeps_stores = keeps_none e;
    writes = wrote_none c r _ _;
  }

  pub works_push : {e m f : Engine C R O} {rs : List Request} {bs : List Answer} {a : Answer} → Works c r o e rs bs m → (q : Request) → Steps c r o m q a f
      → Works c r o e (rs ++ q ∷ []) (bs ++ a ∷ []) f
  works_push {e} {m} {f} {rs} {bs} {a} w q went =
      let stepped : (a, state_of c r f) ≡ step (setup_of o e) (state_of c r m) q = rw w.same_setup at went.answered in
      let told : a ≡ answer (setup_of o e) (state_of c r m) q = ap (λ (z : Answer × State). z.0) stepped in
      record {
        worked = worked_push w.worked q stepped;
        in_turn = worked_in_turn (worked_push w.worked q stepped);
        same_setup = went.same_setup ∙ w.same_setup;
        keeps_stores = keeps_both w.keeps_stores went.keeps_stores;
        writes = rw (written_push w.worked q, ← told) (wrote_both c r _ _ _ _ _ _ _ _ w.writes went.writes);
      }

  -- the requests and the answers are slices; the answers so far stand before the index
  pub works_more : {e m f : Engine C R O} {a : Answer} (rs : List Request) (bs : List Answer) (k : ℕ) (d : Request) → Works c r o e (take k rs) (take k bs) m
      → k < length rs → k < length bs → Steps c r o m (get_or rs k d) a f → Works c r o e (take (k + 1) rs) (take (k + 1) (set bs k a)) f
  works_more {a = a} rs bs k d w lr lb went = rw (take_more rs k d lr, take_more_set bs k a lb) (works_push w (get_or rs k d) went)

  -- where none of them is a commit that was granted, the stores themselves stay
  pub works_nothing : {e f : Engine C R O} {rs : List Request} {bs : List Answer} → Works c r o e rs bs f → NoneCommitted rs bs
      → (f.cells.now ≡ e.cells.now) × (f.rights.now ≡ e.rights.now)
  unfolding Written to_cells to_rights
  works_nothing w none =
      let wrote = rw (nothing_written _ _ _ _ w.in_turn.answered_in_turn none) at w.writes in
      (wrote.into_cells, wrote.into_rights)
