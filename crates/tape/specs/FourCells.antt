-- The set-up of four cells.
use Rattle.std.specs.Prelude.{[], ◌∷◌}
use Rattle.protocol.specs.declared.policy.Object.TheVariants.{OfCell, OfPolicy}
use Rattle.rights.specs.Orders.{vector_right, vector_joined, vector_allows}
use Rattle.serial.specs.Words.{Setup, Store, setup_of}

abbrev pub four_cells_setup : Setup
four_cells_setup =
    setup_of vector_right vector_joined vector_allows (record { subject = 1; object = OfCell 0 } ∷ record { subject = 9; object = OfPolicy 0 } ∷ [])

abbrev pub four_cells_lists : Store
four_cells_lists = record { cells = 0 ∷ 0 ∷ 0 ∷ 0 ∷ []; rights = 6 ∷ 7 ∷ [] }
