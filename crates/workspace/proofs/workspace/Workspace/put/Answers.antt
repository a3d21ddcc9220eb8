use Rattle.std.proofs.Common.{◌≡◌, ◌<◌, length, sym, ap, ◌∙◌, arith, rules}
use lib.Seq.{take-set-lt}
use Rattle.std.specs.List.{position}
use Rattle.std.proofs.lemmas.Bool.{cond-true, cond-false, lt-ltb, le-ltb}
use Rattle.std.proofs.lemmas.List.{length-take, length-take-le, take_more_set}
use Rattle.workspace.specs.Workspaces.{changes_of, is_of}
use Rattle.workspace.proofs.Searches.{room_is, put_at, put_behind, change}
use Rattle.workspace.proofs.workspace.Workspace.put.Goals as goal

pub returns-in-Some : goal.returns-in-Some
returns-in-Some c =
    let w = c.args.self.now in
    let e = c.in-Some.ensures ∙ ap (position (is_of c.args.object)) c.as_slice.ensures in
    let left = room_is c.args.object (changes_of w) _ e in
    let at = put_at c.args.object (changes_of w) c.args.value c.in-Some.place e in
    let few = length-take w.count w.changes in
    let lt : c.in-Some.place < w.count = omega arith in
    record {
      answer = sym (cond-true _ _ _ left);
      after = take-set-lt w.count w.changes c.in-Some.place (change c.args.object c.args.value) lt ∙ sym at.1 ∙ sym (cond-true _ _ _ left);
    }

pub returns-in-None : goal.returns-in-None
returns-in-None c =
    let w = c.args.self.now in
    let e = c.in-None.ensures ∙ ap (position (is_of c.args.object)) c.as_slice.ensures in
    let long : length w.changes ≡ 16 = search rules in
    let few = length-take-le w.count w.changes (omega arith) in
    let left = room_is c.args.object (changes_of w) _ e ∙ lt-ltb (length (changes_of w)) 16 (omega arith) in
    record {
      answer = sym (cond-true _ _ _ left);
      after = take_more_set w.changes w.count (change c.args.object c.args.value) (omega arith) ∙ sym (put_behind c.args.object (changes_of w) c.args.value e) ∙ sym (cond-true _ _ _ left);
    }

pub returns-in-None-2 : goal.returns-in-None-2
returns-in-None-2 c =
    let w = c.args.self.now in
    let e = c.in-None-2.ensures ∙ ap (position (is_of c.args.object)) c.as_slice.ensures in
    let long : length w.changes ≡ 16 = search rules in
    let few = length-take-le w.count w.changes (omega arith) in
    let full = room_is c.args.object (changes_of w) _ e ∙ le-ltb (length (changes_of w)) 16 (omega arith) in
    record { answer = sym (cond-false _ _ _ full); after = sym (cond-false _ _ _ full) }
