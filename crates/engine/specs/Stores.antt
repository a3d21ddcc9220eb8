-- Two stores as the machine has them.
use Rattle.std.specs.Prelude.{◌≡◌, ℕ, List, take}
use Rattle.stores.specs.declared.store.Store as store
use Rattle.stores.specs.Writes.{Written}
use Rattle.serial.specs.Words.{Store, Change}
use Rattle.serial.specs.Writes.{to_cells, to_rights}

-- The lists of two stores
abbrev pub lists_of : {C R : Type 0} → store.Ghosts C → store.Ghosts R → C → R → Store
lists_of c r cells rights = record { cells = c.list cells; rights = r.list rights }

-- The same with the first n cells only
abbrev pub first_cells : ℕ → Store → Store
first_cells n s = record { cells = take n s.cells; rights = s.rights }

-- The stores still have the memory that they were lent: a fact about a call, which no type of a store can hold.
pub record Lent {C R : Type 0} (c : store.Ghosts C) (r : store.Ghosts R) (cells : C) (rights : R) (cells' : C) (rights' : R) : Type 0 where
  pub by_cells : c.lent cells' ≡ c.lent cells
  pub by_rights : r.lent rights' ≡ r.lent rights

-- The changes went into the stores: one write for each, in their order, each to its store. Where there are none, the stores themselves are as they were.
pub record Wrote {C R : Type 0} (c : store.Ghosts C) (r : store.Ghosts R) (cells : C) (rights : R) (cells' : C) (rights' : R) (changes : List Change) : Type 0 where
  pub into_cells : Written c (to_cells changes) cells cells'
  pub into_rights : Written r (to_rights changes) rights rights'
