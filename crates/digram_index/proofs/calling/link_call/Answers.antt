use Rattle.std.proofs.Common.{slice_get, ap, ◌∙◌, subst, arith}
use Rattle.rule_arena.specs.Laws.{IsKeyedTerm}
use Rattle.rule_arena.specs.declared.key.Key.{Key}
use Rattle.slt_grammar.specs.Keyed.{nodes_at}
use Rattle.slt_grammar.proofs.KeyedLemmas.{key_at-within, nodes-are-term}
use Rattle.digram_index.specs.Partly.{IsAmong, IsRight}
use Rattle.digram_index.proofs.Apartness.{one-key}
use Rattle.digram_index.proofs.Kids.{kid-there}
use Rattle.digram_index.proofs.NodeLinks.{kept-right}
use Rattle.digram_index.proofs.calling.link_call.Goals as goal

pub kids_of-arguments-requires : goal.kids_of-arguments-requires
kids_of-arguments-requires c = (c.requires.there.rule, c.requires.there.place, c.requires.there.there)

pub link_kids-requires-clause-there : goal.link_kids-requires-clause-there
link_kids-requires-clause-there c = λ i k e.
    let S = c.requires.there in
    let K = c.limit-limit.ensures.keyed in
    let T : IsKeyedTerm (nodes_at c.args.grammar.now.rules S.rule) = record {
      term = nodes-are-term c.args.grammar.now K S.rule (key_at-within c.args.grammar.now.rules S.rule S.place c.args.call S.there).0;
      once = λ i j m a b. (K.once m S.rule i S.rule j a b).1;
    } in
    let t = kid-there (nodes_at c.args.grammar.now.rules S.rule) S.place c.args.call i k T S.there (ap (λ ks. slice_get ks i) (c.kids_of-arguments.ensures S.rule S.place S.there) ∙ e) in
    record { rule = S.rule; place = t.0; there = t.1 }

pub link_kids-requires-clause-room : goal.link_kids-requires-clause-room
link_kids-requires-clause-room c = omega (arith, c.requires.room, c.link_node.ensures.spare, c.len-few.ensures.value, c.len-few.ensures.few)

pub returns-clause-call : goal.returns-clause-call
returns-clause-call c = c.link_kids.ensures.kept c.args.call c.link_node.ensures.right

pub returns-clause-arguments : goal.returns-clause-arguments
returns-clause-arguments c = λ S k a.
    let b = subst (λ ks. IsAmong ks k.number) (c.kids_of-arguments.ensures S.rule S.place S.there) a in
    subst (λ (x : Key). IsRight c.args.grammar.now.rules c.link_kids.new.index x) (one-key b.1.0 k b.1.1.1) (c.link_kids.ensures.linked b.0 b.1.0 b.1.1.0)

pub returns-clause-kept : goal.returns-clause-kept
returns-clause-kept c = λ k R.
    c.link_kids.ensures.kept k (kept-right c.args.grammar.now c.args.call c.args.index.now c.link_node.new.index c.link_node.ensures.right c.link_node.ensures.others k R)

pub returns-clause-spare : goal.returns-clause-spare
returns-clause-spare c = omega (arith, c.link_kids.ensures.spare, c.link_node.ensures.spare, c.len-few.ensures.value, c.len-few.ensures.few)
