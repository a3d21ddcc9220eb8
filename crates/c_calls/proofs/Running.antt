-- Runs by a set-up, on two stores, on two lists, and on two logs.
use Rattle.std.proofs.Common.{◌≡◌, ℕ, List, [], Ok, Err, Result, refl, sym, subst, ap, ap₂, ◌∙◌, true}
use Rattle.protocol.specs.Refusals.{Outcome, answered, refused, refusal_number}
use Rattle.protocol.specs.declared.refusal.Refusal.{Refusal}
use Rattle.rights.specs.Orders.{verdict}
use Rattle.stores.specs.contracts.slice.SliceStoreStore.TheImpl as slice
use Rattle.stores.specs.declared.slice.SliceStore.{SliceStore}
use Rattle.log_store.specs.contracts.store.LogStoreStore.TheImpl as log
use Rattle.log_store.specs.declared.held.LogStore.{LogStore}
use Rattle.log_store.specs.Held.{bytes_of}
use Rattle.log_store.specs.Log.{holds_log}
use Rattle.log_store.proofs.Written.{written_bytes}
use Rattle.serial.specs.Words.{Setup, Store, Change}
use Rattle.serial.specs.Writes.{to_cells, to_rights}
use Rattle.engine.specs.Stores.{lists_of, Wrote}
use Rattle.engine.proofs.Slices.{wrote_lists}
use Rattle.tape.proofs.Runs.{runs_as}
use Rattle.c_calls.specs.Runs.{lists, lists_wrote, lists_on_logs, logs_wrote, RunsBy}
use Rattle.c_calls.proofs.Logs.{sound_after_all, stores_wrote}

-- Where no set-up is made, nothing is run.
pub not_made : (o : Outcome Setup) (before : Store) (wrote : List Change → Type 0) (tape buffer : List ℕ) (f : Refusal)
    → refused (refusal_number f) ≡ verdict o → wrote [] → RunsBy o before before wrote tape buffer buffer (Err f)
not_made (answered S) before wrote tape buffer f e none = absurd (cc)
not_made (refused k) before wrote tape buffer f e none = record { refuses = cc; stores_stay = refl; nothing_written = none; buffer_stays = refl }

-- Of every run it is known which changes went into the stores.
pub some_changes : (o : Outcome Setup) (before after : Store) (wrote : List Change → Type 0) (tape buffer buffer' : List ℕ) (ran : Result ℕ Refusal)
    → RunsBy o before after wrote tape buffer buffer' ran → (ks : List Change) × wrote ks
some_changes (answered S) before after wrote tape buffer buffer' (Ok n) runs = (_, runs.writes)
some_changes (answered S) before after wrote tape buffer buffer' (Err f) runs = ([], runs.nothing_written)
some_changes (refused k) before after wrote tape buffer buffer' (Ok n) runs = absurd runs
some_changes (refused k) before after wrote tape buffer buffer' (Err f) runs = ([], runs.nothing_written)

-- The same run by what follows of the changes that went into the stores
module _ (before after : Store) (wrote wrote' : List Change → Type 0) (tape buffer buffer' : List ℕ) (follows : (ks : List Change) → wrote ks → wrote' ks) where
  runs_by_as : (o : Outcome Setup) (ran : Result ℕ Refusal) → RunsBy o before after wrote tape buffer buffer' ran → RunsBy o before after wrote' tape buffer buffer' ran
  runs_by_as (answered S) ran runs = runs_as S before after wrote wrote' tape buffer buffer' follows ran runs
  runs_by_as (refused k) (Err f) runs = record {
    refuses = runs.refuses;
    stores_stay = runs.stores_stay;
    nothing_written = follows [] runs.nothing_written;
    buffer_stays = runs.buffer_stays;
  }
  runs_by_as (refused k) (Ok n) runs = absurd runs

-- On two slices of these lists, which the caller gets back with those
pub on_lists : (o : Outcome Setup) (cells rights cells' rights' : SliceStore) (ns ms ns' ms' : List ℕ)
    → cells.numbers.now ≡ ns → rights.numbers.now ≡ ms → ns' ≡ cells'.numbers.now → ms' ≡ rights'.numbers.now
    → (tape buffer buffer' : List ℕ) (ran : Result ℕ Refusal)
    → RunsBy o (lists_of slice.ghosts slice.ghosts cells rights) (lists_of slice.ghosts slice.ghosts cells' rights') (Wrote slice.ghosts slice.ghosts cells rights cells' rights')
    tape buffer buffer' ran
    → RunsBy o (lists ns ms) (lists ns' ms') (lists_wrote (lists ns ms) (lists ns' ms')) tape buffer buffer' ran
on_lists o cells rights cells' rights' ns ms ns' ms' lent_cells lent_rights back_cells back_rights tape buffer buffer' ran runs =
    rw (← lent_cells, ← lent_rights, back_cells, back_rights)
    (runs_by_as _ _ _ _ tape buffer buffer' (λ ks w. wrote_lists cells rights cells' rights' ks w) o ran runs)

-- On two logs of these bytes, which the caller gets back with those
pub on_logs : (o : Outcome Setup) (cells rights cells' rights' : LogStore) (m : ℕ) (t t' : List ℕ) (n : ℕ) (u u' : List ℕ)
    → cells.count ≡ m → rights.count ≡ n → bytes_of cells ≡ t → bytes_of rights ≡ u → t' ≡ bytes_of cells' → u' ≡ bytes_of rights'
    → (tape buffer buffer' : List ℕ) (ran : Result ℕ Refusal)
    → RunsBy o (lists_of log.ghosts log.ghosts cells rights) (lists_of log.ghosts log.ghosts cells' rights') (Wrote log.ghosts log.ghosts cells rights cells' rights')
    tape buffer buffer' ran
    → RunsBy o (lists_on_logs m t n u) (lists_on_logs m t' n u') (logs_wrote m t t' n u u') tape buffer buffer' ran
on_logs o cells rights cells' rights' m t t' n u u' cell_count right_count lent_cells lent_rights back_cells back_rights tape buffer buffer' ran runs =
    let w = some_changes o _ _ (Wrote log.ghosts log.ghosts cells rights cells' rights') tape buffer buffer' ran runs in
    let same_cells = (written_bytes (to_cells w.0) cells cells' w.1.into_cells).0 in
    let same_rights = (written_bytes (to_rights w.0) rights rights' w.1.into_rights).0 in
    let stores = runs_by_as _ _ _ _ tape buffer buffer' (λ ks w. stores_wrote cells rights cells' rights' ks w) o ran runs in
    let after = ap₂ (λ j k. lists_on_logs j (bytes_of cells') k (bytes_of rights')) same_cells same_rights in
    rw (← cell_count, ← right_count, ← lent_cells, ← lent_rights, back_cells, back_rights)
    (subst (λ (s : Store). RunsBy o (lists_of log.ghosts log.ghosts cells rights) s (logs_wrote cells.count (bytes_of cells) (bytes_of cells') rights.count (bytes_of rights) (bytes_of rights')) tape buffer buffer' ran)
    after stores)

-- A sound log stays sound.
pub sound_logs : (o : Outcome Setup) (before after : Store) (m : ℕ) (t t' : List ℕ) (n : ℕ) (u u' : List ℕ) (tape buffer buffer' : List ℕ) (ran : Result ℕ Refusal)
    → RunsBy o before after (logs_wrote m t t' n u u') tape buffer buffer' ran → holds_log m t ≡ true → holds_log n u ≡ true
    → (holds_log m t' ≡ holds_log m t) × (holds_log n u' ≡ holds_log n u)
sound_logs o before after m t t' n u u' tape buffer buffer' ran runs cells rights =
    let w = some_changes o before after (logs_wrote m t t' n u u') tape buffer buffer' ran runs in (
      ap (holds_log m) w.1.0 ∙ sound_after_all m t (to_cells w.0) cells ∙ sym cells,
      ap (holds_log n) w.1.1 ∙ sound_after_all n u (to_rights w.0) rights ∙ sym rights,
    )
