use Rattle.std.proofs.Common.{◌++◌, append_assoc}
use Rattle.std.proofs.lemmas.Result.{err_from_is_err_and}
use Rattle.xml_nodes.specs.Saved.{leaf_text}
use Rattle.xml_nodes.proofs.Escaping.{stops_at_first, stops_at_second, ends_at_third}
use Rattle.xml_nodes.proofs.writer.send_item.Goals as goal

pub returns-in_err-send : goal.returns-in_err-send
returns-in_err-send g c =
    let leaf = leaf_text c.args.kind c.args.name.now c.args.value.now in
    stops_at_first _ _ _ c.from_residual.result ((c.args.front.now ++ leaf) ++ c.args.end.now) c.args.front.now (leaf ++ c.args.end.now)
    (append_assoc c.args.front.now leaf c.args.end.now) (err_from_is_err_and c.from_residual.result c.from_residual.ensures.1).1 c.in_err-send.ensures

pub returns-in_err-send_leaf : goal.returns-in_err-send_leaf
returns-in_err-send_leaf g c =
    let leaf = leaf_text c.args.kind c.args.name.now c.args.value.now in
    stops_at_second _ _ _ _ c.from_residual-in_err-send_leaf.result ((c.args.front.now ++ leaf) ++ c.args.end.now) c.args.front.now leaf c.args.end.now
    (append_assoc c.args.front.now leaf c.args.end.now) (err_from_is_err_and c.from_residual-in_err-send_leaf.result c.from_residual-in_err-send_leaf.ensures.1).1
    c.in_ok-send.ensures c.in_err-send_leaf.ensures

pub returns : goal.returns
returns g c =
    let leaf = leaf_text c.args.kind c.args.name.now c.args.value.now in
    ends_at_third _ _ _ _ c.send-2.result ((c.args.front.now ++ leaf) ++ c.args.end.now) c.args.front.now leaf c.args.end.now
    (append_assoc c.args.front.now leaf c.args.end.now) c.in_ok-send.ensures c.in_ok-send_leaf.ensures c.send-2.ensures
