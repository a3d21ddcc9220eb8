use Rattle.std.proofs.Common.{◌≡◌, sym, ap₂, ◌∙◌, arith}
use Rattle.std.proofs.lemmas.List.{set_past}
use Rattle.log_store.specs.Held.{list_of}
use Rattle.log_store.specs.Log.{holds_log}
use Rattle.log_store.proofs.LogLaws.{length_log}
use Rattle.log_store.proofs.Sound.{sound_written}
use Rattle.log_store.proofs.store.LogStoreStore.write.Goals as goal

pub returns-then-at-self-clause-after : goal.returns-then-at-self-clause-after
returns-then-at-self-clause-after c =
    let s = c.args.self.now in
    sym (set_past (list_of s) c.args.at c.args.value (omega (arith, length_log s.count s.bytes.now)))

pub returns-clause-sound : goal.returns-clause-sound
returns-clause-sound c = λ h.
    let s = c.args.self.now in
    let same : c.set.new.self.count ≡ s.count = cc in
    ap₂ holds_log same c.set.ensures.bytes ∙ sound_written s.count s.bytes.now c.args.at c.args.value (omega arith) h
