use Rattle.std.proofs.Common.{arith, ap, refl, subst, sym, ◌∙◌, ℕ, List, Option, Some, length}
use Rattle.std.proofs.lemmas.List.Sums.{sum_by-cons}
use Rattle.slt_grammar.specs.Bodies.{params}
use Rattle.slt_grammar.specs.Keyed.{nodes_at}
use Rattle.slt_grammar.specs.declared.level.Level.{Level}
use Rattle.segment_counts.specs.Weights.{node_weight}
use Rattle.preorder_address.specs.Descents.{levels_of}
use Rattle.preorder_address.specs.Parents.{Tells}
use Rattle.preorder_address.specs.Sites.{laden, labels_before}
use Rattle.preorder_address.specs.Told.{level_nodes}
use Rattle.preorder_address.specs.declared.parent.Entry.{Entry}
use Rattle.preorder_address.proofs.Locating.{nodes-few}
use Rattle.preorder_address.proofs.ParentWays.{ParentedBy, here, limit, parented-next, parenting-start, tells-next, up_here}
use Rattle.preorder_address.proofs.Sited.{SitedBy, level-key, level-within, sited-next}
use Rattle.preorder_address.proofs.TreeKids.{nodes-fit, total-nodes}
use Rattle.preorder_address.proofs.TreeParents.{no-parent, parent-told, total-trees}
use Rattle.preorder_address.proofs.ParentRises.{plain-not}
use Rattle.preorder_address.proofs.parent.find_parent.Goals as goal

pub returns-in_err-descent-clause-parent : goal.returns-in_err-descent-clause-parent
returns-in_err-descent-clause-parent g c = λ names ts code.
    let a = c.args in
    let n = total-trees names a.grammar.now.rules ts code a.counts.now c.requires.counts c.limit-limit.ensures.keyed.grammar in
    c.from_residual.ensures ∙ sym (no-parent names a.grammar.now.rules ts code a.number (grind (arith, n, c.in_err-descent.ensures.some)))

pub loop-level-init : goal.loop-level-init
loop-level-init g c =
    let a = c.args in
    let K = c.limit-limit.ensures.keyed in
    parenting-start a.grammar.now K a.number c.in_ok-descent.descent a.steps.now (c.in_ok-descent.ensures.leads a.grammar.now K c.requires.counts)

pub first_child_above-edge-requires-clause-there : goal.first_child_above-edge-requires-clause-there
first_child_above-edge-requires-clause-there g c =
    let a = c.args in
    let K = c.limit-limit.ensures.keyed in
    let l = c.in-Some.level in
    let f = c.loop-level.frame in
    let ls = levels_of a.grammar.now.rules c.next.new.self in
    let s = subst (λ (ls : List Level). SitedBy a.grammar.now node_weight a.number ls f.before f.args) c.in-Some.ensures.levels c.loop-level.invariant.sited in
    let i = here a.grammar.now K a.number l ls f.before f.args s in
    (l.rule, i.place, level-key a.grammar.now K node_weight refl a.number l ls f.before f.args s)

pub frame_at-frame-requires-clause-there : goal.frame_at-frame-requires-clause-there
frame_at-frame-requires-clause-there g c =
    let a = c.args in
    let K = c.limit-limit.ensures.keyed in
    let l = c.in-Some.level in
    let f = c.loop-level.frame in
    let ls = levels_of a.grammar.now.rules c.next.new.self in
    let s = subst (λ (ls : List Level). SitedBy a.grammar.now node_weight a.number ls f.before f.args) c.in-Some.ensures.levels c.loop-level.invariant.sited in
    let i = here a.grammar.now K a.number l ls f.before f.args s in
    (i.place, i.node, i.there, i.key, plain-not i.node.label i.plain)

pub frame_at-frame-requires-clause-small : goal.frame_at-frame-requires-clause-small
frame_at-frame-requires-clause-small g c =
    let a = c.args in
    let K = c.limit-limit.ensures.keyed in
    let l = c.in-Some.level in
    let f = c.loop-level.frame in
    let ls = levels_of a.grammar.now.rules c.next.new.self in
    let s = subst (λ (ls : List Level). SitedBy a.grammar.now node_weight a.number ls f.before f.args) c.in-Some.ensures.levels c.loop-level.invariant.sited in
    let w = level-within a.grammar.now K node_weight refl a.number l ls f.before f.args s in
    omega (arith, w, total-nodes a.grammar.now.rules a.counts.now c.requires.counts K.grammar, nodes-fit a.grammar.now.rules a.counts.now c.requires.counts K.grammar)

pub loop-level-preserved : goal.loop-level-preserved
loop-level-preserved g c =
    let a = c.args in
    let K = c.limit-limit.ensures.keyed in
    let l = c.in-Some.level in
    let f = c.loop-level.frame in
    let v = c.loop-level.invariant in
    let ls = levels_of a.grammar.now.rules c.next.new.self in
    let e = c.in-Some.ensures.levels in
    let s = subst (λ (ls : List Level). SitedBy a.grammar.now node_weight a.number ls f.before f.args) e v.sited in
    let w = subst (λ (ls : List Level). ParentedBy a.grammar.now a.number ls f.before f.args v.up) e v.parented in
    let i = here a.grammar.now K a.number l ls f.before f.args s in
    let k = level-key a.grammar.now K node_weight refl a.number l ls f.before f.args s in
    let r = c.frame_at-frame in
    let b = r.ensures.before i.place k in
    let n = r.ensures.args i.place i.node i.there i.key in
    let base = labels_before a.grammar.now.rules l.rule i.place in
    record {
      inside = c.in-Some.ensures.inside;
      sited = subst (λ (j : ℕ). SitedBy a.grammar.now node_weight a.number ls j r.result.args) (sym b)
          (sited-next a.grammar.now K node_weight refl a.number l ls f.before f.args s (laden node_weight f.args base) (params base) r.result.args refl refl n);
      up = up_here a.grammar.now K a.number l ls f.before f.args s v.up;
      tells = tells-next a.grammar.now K a.number l ls f.before f.args s c.loop-level.entry c.later_entry-entry.result c.first_child_above-edge.result v.up (c.first_child_above-edge.ensures.tells l.rule i.place k) v.tells f refl
          c.later_entry-entry.ensures.here c.later_entry-entry.ensures.before;
      parented = parented-next a.grammar.now K a.number l ls f.before f.args s v.up w r.result.before r.result.args b n;
      few = omega (
        arith,
        v.few,
        ap (level_nodes a.grammar.now.rules) e,
        sum_by-cons (λ (l : Level). length (nodes_at a.grammar.now.rules l.rule)) l ls,
        c.in-Some.ensures.steps,
        c.first_child_above-edge.ensures.steps l.rule i.place k,
        r.ensures.steps,
      );
    }

pub number_of-requires-clause-tells : goal.number_of-requires-clause-tells
number_of-requires-clause-tells g c =
    let a = c.args in
    let K = c.limit-limit.ensures.keyed in
    let v = c.loop-level.invariant in (
      limit a.grammar.now a.number,
      v.up,
      omega (arith, total-nodes a.grammar.now.rules a.counts.now c.requires.counts K.grammar, nodes-fit a.grammar.now.rules a.counts.now c.requires.counts K.grammar),
      subst (λ (o : Option Entry). Tells a.grammar.now.rules (limit a.grammar.now a.number) o v.up) c.in-Some-entry.is v.tells,
    )

pub returns-in-Some-entry-clause-parent : goal.returns-in-Some-entry-clause-parent
returns-in-Some-entry-clause-parent g c = λ names ts code.
    let a = c.args in
    let K = c.limit-limit.ensures.keyed in
    let v = c.loop-level.invariant in
    let f = c.loop-level.frame in
    let n = total-trees names a.grammar.now.rules ts code a.counts.now c.requires.counts K.grammar in
    let t = subst (λ (o : Option Entry). Tells a.grammar.now.rules (limit a.grammar.now a.number) o v.up) c.in-Some-entry.is v.tells in
    let w = subst (λ (ls : List Level). ParentedBy a.grammar.now a.number ls f.before f.args v.up) c.in_default.ensures.levels.0 v.parented in
    let h = c.in_ok-descent.ensures.some.0 refl in
    ap Some (sym (c.number_of.ensures.number (limit a.grammar.now a.number) v.up t) ∙ w) ∙ parent-told names a.grammar.now.rules ts code a.number (omega (arith, n, h))

pub returns-in-Some-entry-clause-steps : goal.returns-in-Some-entry-clause-steps
returns-in-Some-entry-clause-steps g c =
    let a = c.args in
    omega (arith, c.loop-level.invariant.few, c.in_default.ensures.steps, c.number_of.ensures.steps, nodes-few a.grammar.now.rules c.in-Some-entry.entry.rule)

pub returns-in-None-clause-parent : goal.returns-in-None-clause-parent
returns-in-None-clause-parent g c = λ names ts code.
    let a = c.args in
    let K = c.limit-limit.ensures.keyed in
    let v = c.loop-level.invariant in
    let f = c.loop-level.frame in
    let n = total-trees names a.grammar.now.rules ts code a.counts.now c.requires.counts K.grammar in
    let t = subst (λ (o : Option Entry). Tells a.grammar.now.rules (limit a.grammar.now a.number) o v.up) c.in-None.is v.tells in
    let w = subst (λ (ls : List Level). ParentedBy a.grammar.now a.number ls f.before f.args v.up) c.in_default.ensures.levels.0 v.parented in
    let h = c.in_ok-descent.ensures.some.0 refl in
    ap Some (sym t ∙ w) ∙ parent-told names a.grammar.now.rules ts code a.number (omega (arith, n, h))
