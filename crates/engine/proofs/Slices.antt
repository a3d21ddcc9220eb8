-- Changes that went into two slices: their lists are those to which the changes were applied.
use Rattle.std.proofs.Common.{◌≡◌, ℕ, List, [], ◌∷◌, ap, ap₂, ◌∙◌}
use Rattle.protocol.specs.declared.policy.Object.{Object}
use Rattle.protocol.specs.declared.policy.Object.TheVariants.{OfCell, OfPolicy}
use Rattle.stores.specs.Writes.{Written}
use Rattle.stores.specs.contracts.slice.SliceStoreStore.TheImpl as slice
use Rattle.stores.specs.declared.slice.SliceStore.{SliceStore}
use Rattle.serial.specs.Words.{Store, Change}
use Rattle.serial.specs.Changes.{store_at, apply}
use Rattle.serial.specs.Writes.{before_cells, before_rights, to_cells, to_rights}
use Rattle.engine.specs.Stores.{Wrote}

abbrev pub slice_lists : SliceStore → SliceStore → Store
slice_lists cells rights = record { cells = cells.numbers.now; rights = rights.numbers.now }

one : (ks : List Change) (cells cells' rights rights' : SliceStore)
    → ((c r : SliceStore) → Written slice.ghosts (to_cells ks) c cells' → Written slice.ghosts (to_rights ks) r rights' → slice_lists cells' rights' ≡ apply ks (slice_lists c r))
    → (o : Object) (n : ℕ) → Written slice.ghosts (before_cells o n (to_cells ks)) cells cells' → Written slice.ghosts (before_rights o n (to_rights ks)) rights rights'
    → slice_lists cells' rights' ≡ apply ks (store_at (slice_lists cells rights) o n)
unfolding Written
one ks cells cells' rights rights' rest (OfCell c) n (next, first, w) v = rest next rights w v ∙ ap (λ l. apply ks (record { cells = l; rights = rights.numbers.now })) first
one ks cells cells' rights rights' rest (OfPolicy p) n w (next, first, v) = rest cells next w v ∙ ap (λ l. apply ks (record { cells = cells.numbers.now; rights = l })) first

applied : (ks : List Change) (cells cells' rights rights' : SliceStore) → Written slice.ghosts (to_cells ks) cells cells' → Written slice.ghosts (to_rights ks) rights rights'
    → slice_lists cells' rights' ≡ apply ks (slice_lists cells rights)
unfolding Written to_cells to_rights apply
applied [] cells cells' rights rights' w v = ap₂ slice_lists w v
applied (k ∷ ks) cells cells' rights rights' w v = one ks cells cells' rights rights' (λ c r. applied ks c cells' r rights') k.object k.value w v

pub wrote_lists : (cells rights cells' rights' : SliceStore) (ks : List Change) → Wrote slice.ghosts slice.ghosts cells rights cells' rights' ks
    → slice_lists cells' rights' ≡ apply ks (slice_lists cells rights)
wrote_lists cells rights cells' rights' ks w = applied ks cells cells' rights rights' w.into_cells w.into_rights
