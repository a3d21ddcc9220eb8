-- The list that a workspace means: the front of its array.
use Rattle.std.specs.Prelude.{Bool, List, take}
use Rattle.protocol.specs.declared.policy.Object.{Object}
use Rattle.serial.specs.Words.{Change, same_object}
use Rattle.workspace.specs.declared.workspace.Workspace.{Workspace}

abbrev pub changes_of : Workspace → List Change
changes_of w = take w.count w.changes

-- A change of that object
abbrev pub is_of : Object → Change → Bool
is_of o k = same_object k.object o
