use Rattle.std.proofs.Common.{◌≡◌, ap, ◌∙◌, rules}
use Rattle.std.specs.List.{find}
use Rattle.workspace.specs.Workspaces.{changes_of, is_of}
use Rattle.workspace.proofs.Searches.{value_in, latest_is}
use Rattle.workspace.proofs.workspace.Workspace.value_of.Goals as goal

pub returns : goal.returns
returns c =
    let o = c.args.object in
    let e : c.map.result ≡ value_in c.change_of.result = search rules in
    e ∙ ap value_in (c.change_of.ensures ∙ ap (find (is_of o)) c.as_slice.ensures) ∙ latest_is o (changes_of c.args.self.now)
