use Rattle.std.proofs.Common.{◌≡◌, ◌∙◌, ◌∷◌, [], sym, ap, arith, reverse, take, length, take_all}
use Rattle.std.proofs.lemmas.List.{length-reverse}
use Rattle.slt_grammar.specs.Keyed.{rules_of}
use Rattle.slt_grammar.specs.Grammars.{body_at}
use Rattle.rule_runs.specs.declared.descent.Mark.TheVariants.{Term as MarkTerm}
use Rattle.rule_runs.specs.Risen.{keys, pair_at}
use Rattle.rule_runs.proofs.Triples.{pair-of}
use Rattle.rule_runs.proofs.Descents.{walk-start}
use Rattle.rule_runs.proofs.NoteLemmas.{notes-length}
use Rattle.rule_runs.proofs.descent.begin.Goals as goal

pub returns-clause-stands : goal.returns-clause-stands
returns-clause-stands g c = λ lists.
    let A = g.A.Rising.algebra c.args.automaton.now in
    let W = g.A.Falling.downward c.args.automaton.now in
    let G = rules_of c.args.grammar.now.rules in
    let ks = keys c.args.risen.now.known in
    let k = pair_at ks c.args.spot.pair in
    let p = pair-of A W G c.args.risen.now.known c.requires.run c.args.spot.pair c.requires.there in
    let body = c.in_ok-left.ensures.read in
    let ns = body.0 in
    let noted = c.read.ensures.kept.noted c.args.spot.pair body.0 body.1 in
    let n : c.in_ok-left.left ≡ length ns = c.in_ok-left.ensures.nodes ∙ sym (notes-length A G ks k.1 (body_at G k.0) (reverse ns) noted) ∙ length-reverse ns in
    let all : take c.in_ok-left.left ns ≡ ns = take_all c.in_ok-left.left ns (omega arith) in
    let m : c.push.new.self.top ≡ MarkTerm c.args.spot.down ∷ [] = c.in_ok-push.ensures.top ∙ ap (λ xs. MarkTerm c.in_ok-copy.field-0 ∷ xs) c.requires.fresh ∙ ap (λ d. MarkTerm d ∷ []) c.in_ok-copy.ensures in
    record {
      notes = ns;
      noted = noted;
      within = omega arith;
      walks = rw (all, m) (walk-start A W G c.rules-rules.ensures.grammar k p ks lists c.args.spot.down (reverse ns) c.new.result _ c.requires.met noted (c.reuse.ensures ∙ c.new-handed.ensures.items) (c.new.ensures lists));
    }
