use Rattle.std.proofs.Common.{[], ◌∷◌, ◌++◌, sym, append_assoc}
use Rattle.std.specs.List.{flat_map}
use Rattle.std.proofs.lemmas.Result.{err_from_is_err_and}
use Rattle.xml_nodes.specs.Saved.{attribute_text, value_byte}
use Rattle.xml_nodes.proofs.Escaping.{stops_at_first, stops_at_second, ends_at_third}
use Rattle.xml_nodes.proofs.writer.send_attribute.Goals as goal

pub returns-in_err-send_two : goal.returns-in_err-send_two
returns-in_err-send_two g c =
    stops_at_first _ _ _ c.from_residual.result (attribute_text c.args.name.now c.args.value.now) (c.args.name.now ++ 61 ∷ 34 ∷ []) (flat_map value_byte c.args.value.now ++ 34 ∷ [])
    (sym (append_assoc c.args.name.now (61 ∷ 34 ∷ []) (flat_map value_byte c.args.value.now ++ 34 ∷ [])))
    (err_from_is_err_and c.from_residual.result c.from_residual.ensures.1).1 c.in_err-send_two.ensures

pub returns-in_err-send_escaped : goal.returns-in_err-send_escaped
returns-in_err-send_escaped g c =
    stops_at_second _ _ _ _ c.from_residual-in_err-send_escaped.result (attribute_text c.args.name.now c.args.value.now) (c.args.name.now ++ 61 ∷ 34 ∷ []) (flat_map value_byte c.args.value.now) (34 ∷ [])
    (sym (append_assoc c.args.name.now (61 ∷ 34 ∷ []) (flat_map value_byte c.args.value.now ++ 34 ∷ [])))
    (err_from_is_err_and c.from_residual-in_err-send_escaped.result c.from_residual-in_err-send_escaped.ensures.1).1 c.in_ok-send_two.ensures c.in_err-send_escaped.ensures

pub returns : goal.returns
returns g c =
    ends_at_third _ _ _ _ c.send.result (attribute_text c.args.name.now c.args.value.now) (c.args.name.now ++ 61 ∷ 34 ∷ []) (flat_map value_byte c.args.value.now) (34 ∷ [])
    (sym (append_assoc c.args.name.now (61 ∷ 34 ∷ []) (flat_map value_byte c.args.value.now ++ 34 ∷ [])))
    c.in_ok-send_two.ensures c.in_ok-send_escaped.ensures c.send.ensures
