use Rattle.std.proofs.Common.{◌≡◌, ◌≤◌, ◌<◌, ◌∷◌, ◌++◌, [], ℕ, List, Option, Some, None, length, drop, reverse, ap, sym, subst, ◌∙◌, arith}
use Rattle.std.proofs.lemmas.List.{length-reverse}
use Rattle.rule_arena.specs.declared.label.Label.{Label}
use Rattle.rule_arena.specs.declared.label.Label.TheVariants.{Call}
use Rattle.slt_grammar.specs.Algebras.{ranks_of}
use Rattle.slt_grammar.specs.Bodies.{arity, real_nodes}
use Rattle.border_repair.specs.Folding.{IsFromTop, live}
use Rattle.border_repair.specs.declared.folding.Root.{Root}
use Rattle.border_repair.proofs.FoldSteps.{fold-kept, fold-made, out, within-labels}
use Rattle.border_repair.proofs.StackLemmas.{stack-set}
use Rattle.border_repair.proofs.SizeLemmas.{real-append}
use Rattle.border_repair.proofs.folding.fold_label.Goals as goal

pub returns-in-Some-clause-folding : goal.returns-in-Some-clause-folding
returns-in-Some-clause-folding c w =
    let ranks = ranks_of c.args.rules.now in
    let d = c.args.digram in
    let R = c.args.roots.now.items in
    let L = c.args.labels.now.items in
    let p = c.in-Some.ensures.some in
    let y : Root = p.1.0 in
    let t = subst (λ (rs : List Root). IsFromTop rs d.place y) c.as_slice.ensures.value p.1.1 in
    let two = subst (λ n. d.place ≤ n) (sym (ap (arity ranks) p.0)) c.requires.place in
    let o = out ranks d c.requires.pair R (reverse L) c.args.label p.0 w y t two p.1.2 in
    let none : Option Label = None in
    let there : c.in-Some.at < length L = let b = within-labels ranks d c.requires.pair R (reverse L) c.args.label p.0 w y t two p.1.2 in let at = p.1.3 in omega (arith, length-reverse L) in
    let taken = c.take_out.ensures.taken there in
    let now = ap reverse taken ∙ stack-set L o.front o.back c.in-Some.at (Some y.label) none o.labels_are (sym p.1.3 ∙ o.at) in
    let long : length c.take_out.new.labels.items ≡ length (o.front ++ (none ∷ o.back)) = sym (length-reverse c.take_out.new.labels.items) ∙ ap length now in
    fold-made ranks d c.requires.pair R (reverse L) c.args.label p.0 w y t two p.1.2 (length c.take_out.new.labels.items) (reverse c.add_root.new.roots.items) (reverse c.add_root.new.labels.items) long
    (c.in_ok-add_root.ensures.roots ∙ ap (λ (n : ℕ). record { at = length c.take_out.new.labels.items; label = Call 0 } ∷ drop n (reverse R)) c.arity_of-kids.ensures)
    (c.in_ok-add_root.ensures.labels ∙ ap (λ (ls : List (Option Label)). Some (Call 0) ∷ ls) now)

pub returns-clause-folding : goal.returns-clause-folding
returns-clause-folding c w =
    let R = c.args.roots.now.items in
    let L = c.args.labels.now.items in
    fold-kept (ranks_of c.args.rules.now) c.args.digram R (reverse L) c.args.label w (length L) (reverse c.add_root-2.new.roots.items) (reverse c.add_root-2.new.labels.items) (sym (length-reverse L))
    (c.in_ok-add_root-2.ensures.roots ∙ ap (λ (n : ℕ). record { at = length L; label = c.args.label } ∷ drop n (reverse R)) c.arity_of-kids.ensures)
    c.in_ok-add_root-2.ensures.labels
    (λ u y t. c.in_default.ensures.none u y (subst (λ (rs : List Root). IsFromTop rs c.args.digram.place y) (sym c.as_slice.ensures.value) t))

pub returns-in-Some-clause-size : goal.returns-in-Some-clause-size
returns-in-Some-clause-size c =
    let p = c.in-Some.ensures.some in
    omega (arith, c.take_out.ensures.size, ap (λ (ls : List (Option Label)). real_nodes (live ls)) c.in_ok-add_root.ensures.labels, ap (λ (l : Label). real_nodes (l ∷ [])) (p.0 ∙ c.requires.upper.1))

pub returns-clause-size : goal.returns-clause-size
returns-clause-size c =
    let L = reverse c.args.labels.now.items in
    omega (arith, ap (λ (ls : List (Option Label)). real_nodes (live ls)) c.in_ok-add_root-2.ensures.labels, real-append (c.args.label ∷ []) (live L))
