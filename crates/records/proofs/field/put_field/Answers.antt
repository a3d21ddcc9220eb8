use Rattle.std.proofs.Common.{◌≡◌, ◌+◌, ◌-◌, [], ◌∷◌, ◌++◌, length, get_or, drop, refl, ◌∙◌, ap, ap₂, arith}
use borrow.Rule.Slice.PartMut.{put_mid}
use Rattle.protocol.specs.Bytes.{two_bytes}
use Rattle.records.proofs.Buffers.{put_behind}
use Rattle.records.proofs.field.put_field.Goals as goal

pub returns-clause-after : goal.returns-clause-after
returns-clause-after c =
    let buffer = c.args.buffer.now in
    let content = c.args.content.now in
    let k : 3 + length content - 3 ≡ length content = omega arith in
    let head = c.args.tag ∷ two_bytes (length content) in
    let front : c.copy_from_slice.new.self ≡ head = c.copy_from_slice.ensures.after ∙ ap (λ bs. c.args.tag ∷ get_or bs 0 0 ∷ get_or bs 1 0 ∷ []) c.to_be_bytes.ensures in
    ap₂ (λ hs cs. put_mid 3 (3 + length content - 3) (hs ++ drop 3 buffer) cs) front c.copy_from_slice-2.ensures.after
    ∙ put_behind head content buffer 3 _ refl k (omega arith)
