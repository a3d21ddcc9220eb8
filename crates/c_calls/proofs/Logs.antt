-- What is refused of a set-up on a log, and what changes make of two logs.
use Rattle.std.proofs.Common.{◌≡◌, ℕ, Bool, true, false, cond, List, [], ◌∷◌, refl}
use Rattle.std.proofs.lemmas.Bool.{cond_both}
use borrow.Author.Tests.{ltb-true}
use Rattle.protocol.specs.Refusals.{Outcome, answered, refused}
use Rattle.rights.specs.Orders.{verdict}
use Rattle.serial.specs.Words.{Setup, Change}
use Rattle.serial.specs.Writes.{to_cells, to_rights}
use Rattle.log_store.specs.contracts.store.LogStoreStore.TheImpl as log
use Rattle.log_store.specs.declared.held.LogStore.{LogStore}
use Rattle.log_store.specs.Held.{bytes_of}
use Rattle.log_store.specs.Log.{bytes_after, bytes_after_all, holds_log, log_check}
use Rattle.log_store.proofs.Sound.{sound_written}
use Rattle.log_store.proofs.Written.{written_bytes}
use Rattle.engine.specs.Stores.{Wrote}
use Rattle.c_calls.specs.Setups.{on_log}
use Rattle.c_calls.specs.Runs.{logs_wrote}

-- The log decides once nothing was refused before; and what was refused before stays refused.
pub log_decides : (n : ℕ) (t : List ℕ) (o : Outcome Setup) → answered tt ≡ verdict o → verdict (on_log n t o) ≡ log_check n t
log_decides n t (answered S) e =
    elim (holds_log n t) as (λ b. verdict (cond b (answered S) (refused 18)) ≡ cond b (answered tt) (refused 18)) [ true ↦ refl | false ↦ refl ]
log_decides n t (refused k) e = cc

pub stays_refused : (n : ℕ) (t : List ℕ) (o : Outcome Setup) (k : ℕ) → refused k ≡ verdict o → refused k ≡ verdict (on_log n t o)
stays_refused n t (answered S) k e = cc
stays_refused n t (refused j) k e = e

-- Where nothing is refused, the log is sound, and nothing was refused before.
log_sound : (n : ℕ) (t : List ℕ) (o : Outcome Setup) → answered tt ≡ verdict (on_log n t o) → (holds_log n t ≡ true) × (answered tt ≡ verdict o)
log_sound n t (answered S) e = (by (holds_log n t) e, refl)
  where
    by : (b : Bool) → answered tt ≡ verdict (cond b (answered S) (refused 18)) → b ≡ true
    by true e = refl
    by false e = absurd (cc)
log_sound n t (refused k) e = absurd (cc)

-- Where nothing is refused of two logs, both are sound.
pub both_sound : (m : ℕ) (t : List ℕ) (n : ℕ) (u : List ℕ) (o : Outcome Setup) → answered tt ≡ verdict (on_log n u (on_log m t o)) → (holds_log m t ≡ true) × (holds_log n u ≡ true)
both_sound m t n u o e =
    let right = log_sound n u (on_log m t o) e in
    ((log_sound m t o right.1).0, right.0)

-- A sound log stays sound, whatever is written to it.
sound_after : (n : ℕ) (t : List ℕ) (at v : ℕ) → holds_log n t ≡ true → holds_log n (bytes_after n t at v) ≡ true
sound_after n t at v h = cond_both _ _ _ (λ u. holds_log n u ≡ true) (λ low. sound_written n t at v (ltb-true at n low) h) (λ _. h)

pub sound_after_all : (n : ℕ) (t : List ℕ) (writes : List (ℕ × ℕ)) → holds_log n t ≡ true → holds_log n (bytes_after_all n t writes) ≡ true
unfolding bytes_after_all
sound_after_all n t [] h = h
sound_after_all n t ((at, v) ∷ writes) h = sound_after_all n (bytes_after n t at v) writes (sound_after n t at v h)

-- Where no change was made, both logs keep their bytes.
pub nothing_into_logs : (m : ℕ) (t t' : List ℕ) (n : ℕ) (u u' : List ℕ) → logs_wrote m t t' n u u' [] → (t' ≡ t) × (u' ≡ u)
unfolding bytes_after_all to_cells to_rights
nothing_into_logs m t t' n u u' w = w

pub unchanged_logs : (m : ℕ) (t : List ℕ) (n : ℕ) (u : List ℕ) → logs_wrote m t t n u u []
unfolding bytes_after_all to_cells to_rights
unchanged_logs m t n u = (refl, refl)

-- Changes that went into two stores on logs
pub stores_wrote : (cells rights cells' rights' : LogStore) (ks : List Change) → Wrote log.ghosts log.ghosts cells rights cells' rights' ks
    → logs_wrote cells.count (bytes_of cells) (bytes_of cells') rights.count (bytes_of rights) (bytes_of rights') ks
stores_wrote cells rights cells' rights' ks w =
    ((written_bytes (to_cells ks) cells cells' w.into_cells).1, (written_bytes (to_rights ks) rights rights' w.into_rights).1)
