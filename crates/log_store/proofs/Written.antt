-- Some writes to a store on a log: which bytes they leave.
use Rattle.std.proofs.Common.{◌≡◌, ℕ, List, [], ◌∷◌, ap, ap₂, ◌∙◌}
use Rattle.stores.specs.Writes.{Written}
use Rattle.log_store.specs.contracts.store.LogStoreStore.TheImpl as log
use Rattle.log_store.specs.declared.held.LogStore.{LogStore}
use Rattle.log_store.specs.Held.{bytes_of}
use Rattle.log_store.specs.Log.{bytes_after_all}

pub written_bytes : (writes : List (ℕ × ℕ)) (s t : LogStore) → Written log.ghosts writes s t → (t.count ≡ s.count) × (bytes_of t ≡ bytes_after_all s.count (bytes_of s) writes)
unfolding Written bytes_after_all
written_bytes [] s t e = (ap (λ u. u.count) e, ap bytes_of e)
written_bytes ((at, v) ∷ writes) s t w =
    let more = written_bytes writes w.0 t w.2 in
    (more.0 ∙ w.1.0, more.1 ∙ ap₂ (λ n b. bytes_after_all n b writes) w.1.0 w.1.1)
