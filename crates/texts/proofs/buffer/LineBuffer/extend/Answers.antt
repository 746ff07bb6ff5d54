use Rattle.std.proofs.Common.{true, sym, ap, ◌∙◌, rules}
use Rattle.texts.specs.Buffers.{gathered}
use Rattle.texts.proofs.Lines.{more_all_within, more_all_past}
use Rattle.texts.proofs.buffer.LineBuffer.extend.Goals as goal

pub returns-in_ok-extend_from_slice : goal.returns-in_ok-extend_from_slice
returns-in_ok-extend_from_slice c =
    let g = gathered c.args.self.now in
    ap (λ bytes. record { bytes = bytes; most = g.most; over = true }) (search rules)
    ∙ sym (more_all_past g.bytes g.most g.over c.args.bytes.now (search rules))

pub returns-in_ok-extend_from_slice-2 : goal.returns-in_ok-extend_from_slice-2
returns-in_ok-extend_from_slice-2 c =
    let g = gathered c.args.self.now in
    ap (λ bytes. record { bytes = bytes; most = g.most; over = g.over }) (search rules)
    ∙ sym (more_all_within g.bytes g.most g.over c.args.bytes.now (search rules))
