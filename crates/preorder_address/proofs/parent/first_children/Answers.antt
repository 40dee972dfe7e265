use Rattle.std.proofs.Common.{arith}
use Rattle.preorder_address.proofs.FirstTerms.{all-fit, first-terms, nodes-few, param-few}
use Rattle.preorder_address.proofs.parent.first_children.Goals as goal

pub overflow_add-param : goal.overflow_add-param
overflow_add-param c =
    let a = c.args in
    let k = c.requires.counts in
    omega (arith, param-few k.0 k.1 a.counts.now k.2 a.rule a.param k.3 k.4)

pub before-nodes-requires : goal.before-nodes-requires
before-nodes-requires c =
    let a = c.args in
    let k = c.requires.counts in
    omega (arith, nodes-few k.0 k.1 a.counts.now k.2 a.rule a.param k.3 k.4, all-fit k.0 k.1 a.counts.now k.2 a.rule a.param k.3 k.4)

pub overflow_add-param-2 : goal.overflow_add-param-2
overflow_add-param-2 c =
    let a = c.args in
    let k = c.requires.counts in
    omega (arith, param-few k.0 k.1 a.counts.now k.2 a.rule a.param k.3 k.4)

pub before-all-requires : goal.before-all-requires
before-all-requires c =
    let a = c.args in
    let k = c.requires.counts in
    all-fit k.0 k.1 a.counts.now k.2 a.rule a.param k.3 k.4

pub overflow_sub-result : goal.overflow_sub-result
overflow_sub-result c =
    let a = c.args in
    let k = c.requires.counts in
    omega (arith, nodes-few k.0 k.1 a.counts.now k.2 a.rule a.param k.3 k.4, c.before-nodes.ensures, c.before-all.ensures)

pub overflow_sub-result-2 : goal.overflow_sub-result-2
overflow_sub-result-2 c =
    let a = c.args in
    let k = c.requires.counts in
    omega (arith, nodes-few k.0 k.1 a.counts.now k.2 a.rule a.param k.3 k.4, first-terms k.0 k.1 a.counts.now k.2 a.rule a.param k.3 k.4, c.before-nodes.ensures, c.before-all.ensures)

pub overflow_sub-result-3 : goal.overflow_sub-result-3
overflow_sub-result-3 c =
    let a = c.args in
    let k = c.requires.counts in
    omega (arith, nodes-few k.0 k.1 a.counts.now k.2 a.rule a.param k.3 k.4, first-terms k.0 k.1 a.counts.now k.2 a.rule a.param k.3 k.4, c.before-nodes.ensures, c.before-all.ensures)

pub returns : goal.returns
returns c = λ G g a h e.
    let b = c.args in
    omega (arith, nodes-few G g b.counts.now a b.rule b.param h e, first-terms G g b.counts.now a b.rule b.param h e, c.before-nodes.ensures, c.before-all.ensures)
