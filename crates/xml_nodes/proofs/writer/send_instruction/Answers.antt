use Rattle.std.proofs.Common.{[], ◌∷◌, ◌++◌, refl}
use Rattle.std.proofs.lemmas.Result.{err_from_is_err_and}
use Rattle.xml_nodes.specs.Saved.{instruction_text, after_space}
use Rattle.xml_nodes.proofs.Escaping.{stops_at_first}
use Rattle.xml_nodes.proofs.writer.send_instruction.Goals as goal

pub returns-in_err-send_two : goal.returns-in_err-send_two
returns-in_err-send_two g c =
    stops_at_first _ _ _ c.from_residual.result (instruction_text c.args.name.now c.args.value.now) (60 ∷ 63 ∷ c.args.name.now) (after_space c.args.value.now ++ 63 ∷ 62 ∷ [])
    refl (err_from_is_err_and c.from_residual.result c.from_residual.ensures.1).1 c.in_err-send_two.ensures
