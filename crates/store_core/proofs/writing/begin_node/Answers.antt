use Rattle.std.proofs.Common.{◌≡◌, ◌<◌, ◌^◌, true, length, sym, ◌∙◌, arith, rules}
use Rattle.plain_tree.specs.Numbers.{has_value}
use Rattle.store_core.proofs.LeafTexts.{leaf-short, leaf_begins, leaf_lacks}
use Rattle.store_core.proofs.writing.begin_node.Goals as goal

pub returns-in-Some-get : goal.returns-in-Some-get
returns-in-Some-get g c =
    let named = c.in-Some.ensures in
    let valued : has_value c.in-Some.kind ≡ true = sym c.has_value.ensures ∙ c.if-has_value.true in
    let found = c.in-Some-get.ensures in
    let a = rw c.in-Some.is at c.at.type_inv in
    let b = rw c.in-Some-get.is at c.get.type_inv in
    let n : length c.in-Some.name.now < 2 ^ 63 = omega (arith, a) in
    let v : length c.in-Some-get.value.now < 2 ^ 63 = omega (arith, b) in
    let begins = leaf_begins _ c.in-Some.kind c.in-Some.name.now c.in-Some-get.value.now c.args.store.now.texts.texts c.args.used.now named (sym valued) found in
    let short = leaf-short (record { lines = c.args.writer.now.lines; depth = c.args.writer.now.depth; in_tag = c.args.writer.now.in_tag }) c.in-Some.kind c.in-Some.name.now c.in-Some-get.value.now n v in
    rw (begins.0, begins.1) (search rules)

pub returns-in-None : goal.returns-in-None
returns-in-None g c =
    let valued : has_value c.in-Some.kind ≡ true = sym c.has_value.ensures ∙ c.if-has_value.true in
    let lacks = leaf_lacks _ c.in-Some.kind c.in-Some.name.now c.args.store.now.texts.texts c.args.used.now c.in-Some.ensures (sym valued) c.in-None.ensures in
    rw (lacks.0, lacks.1) (search rules)
