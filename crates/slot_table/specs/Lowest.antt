-- The lowest number among the open slots of a set.
use Rattle.std.specs.Prelude.{ℕ, suc, Bool, cond, List, [], ◌∷◌, Some, None, Option}
use Rattle.serial.specs.Model.{lower}
use Rattle.slot_table.specs.declared.slot.Slot.{Slot}
use Rattle.slot_table.specs.declared.slot.Slot.TheVariants.{Free, Open, Aborted}

abbrev pub number_if_open : Slot → Option ℕ
number_if_open Free = None
number_if_open (Open x) = Some x.id
number_if_open (Aborted i b p) = None

-- of the slots from slot k on, those of which p holds
unfoldable pub lowest_in : (ℕ → Bool) → ℕ → List Slot → Option ℕ
lowest_in p k [] = None
lowest_in p k (s ∷ ss) = lower (cond (p k) (number_if_open s) None) (lowest_in p (suc k) ss)
