use Rattle.std.proofs.Common.{arith}
use Rattle.std.proofs.lemmas.Result.{IfOk-weaker, IfErr-weaker}
use Rattle.store_core.proofs.FoundFiles.{found_file, stops_loading}
use Rattle.store_core.proofs.file_reading.read_file.Goals as goal

pub returns-clause-short : goal.returns-clause-short
returns-clause-short g c = IfOk-weaker c.read_bytes-bytes.result _ _ (λ bytes left. left.short) c.read_bytes-bytes.ensures.left

pub returns-clause-held : goal.returns-clause-held
returns-clause-held g c =
    let opened = c.in_ok-open_file.ensures.opened in
    IfOk-weaker c.read_bytes-bytes.result _ _
    (λ bytes left state. found_file _ _ c.args.name.now state (g.F.Shelf.faults c.args.shelf.now) bytes.items opened.0 opened.1 left)
    c.read_bytes-bytes.ensures.left

pub returns-clause-refused : goal.returns-clause-refused
returns-clause-refused g c =
    let opened = c.in_ok-open_file.ensures.opened in
    IfErr-weaker c.read_bytes-bytes.result _ _
    (λ refusal stops a state reads. stops_loading refusal a _ _ c.args.name.now state _ _ _ _ reads opened.0 opened.1 (omega (arith, c.in_ok-open_file.ensures.later)) (omega (arith, c.close.ensures.cause)) stops)
    c.read_bytes-bytes.ensures.refused
