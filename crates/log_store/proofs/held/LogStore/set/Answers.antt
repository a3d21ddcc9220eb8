use Rattle.std.proofs.Common.{◌≡◌, true, ◌||◌, ◌==◌, set, subst, sym, ap, ◌∙◌, arith}
use Rattle.log_store.specs.Log.{appended, holds_log, log_end, log_list}
use Rattle.log_store.proofs.Appends.{log_appended}
use Rattle.log_store.proofs.Sound.{sound_set}
use Rattle.log_store.proofs.held.LogStore.set.Goals as goal

pub returns-clause-list : goal.returns-clause-list
returns-clause-list c =
    let n = c.args.self.now.count in
    let s = c.make_room-end.new.self in
    let u = s.bytes.now in
    let at = c.args.position in
    let v = c.args.value in
    let r = c.make_room-end.ensures in
    let same : s.count ≡ n = cc in
    let bytes = c.append.ensures ∙ ap (λ p. appended u p at v) r.end in
    let list = ap (λ m. log_list m u) (sym same) ∙ r.list in
    ap (λ m. log_list m c.append.new.bytes) same ∙ ap (log_list n) bytes ∙ log_appended n u at v (omega arith) (omega arith) (omega arith) ∙ ap (λ ns. set ns at v) list

pub invariant_of-self : goal.invariant_of-self
invariant_of-self c =
    let s = c.make_room-end.new.self in
    let r = c.make_room-end.ensures in
    let same : s.count ≡ c.args.self.now.count = cc in
    let ends : c.make_room-end.result ≡ log_end s.count s.bytes.now = cc in
    let kept = sound_set s.count s.bytes.now c.make_room-end.result c.args.position c.args.value s.sound (omega arith) ends r.free in
    record { sound = subst (λ b. (s.count == 0 || holds_log s.count b) ≡ true) (sym c.append.ensures) kept }
