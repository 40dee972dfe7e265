use Rattle.std.proofs.Common.{◌++◌, ℕ, List, ap, ◌∙◌}
use Rattle.tree_updates.proofs.BetweenTexts.{between-texts}
use Rattle.tree_updates.proofs.deleting_between.join_texts.Goals as goal

pub text_at-first-requires : goal.text_at-first-requires
text_at-first-requires c = let r = c.requires.store in let b = r.3.between in record { store = (r.0, _, b.before, _, r.2, r.3.left, b.from_is) }

pub text_at-second-requires : goal.text_at-second-requires
text_at-second-requires c =
    let r = c.requires.store in
    let b = r.3.between in
    record { store = (r.0, _, b.after, b.behind, r.2, r.3.right, (between-texts r.0 r.1 c.args.beside.now.number b).right_is) }

pub returns-clause-rank : goal.returns-clause-rank
returns-clause-rank c = λ t n i b. let s = c.args.store.now in c.text_rank.ensures s.names s.grammar.rules _ t b.left i.stand.code

pub returns-clause-value : goal.returns-clause-value
returns-clause-value c = λ t n b i.
    let w = b.between in
    let x = c.text_at-first.ensures t _ w.before _ i b.left w.from_is in
    let y = c.text_at-second.ensures t _ w.after w.behind i b.right (between-texts t n c.args.beside.now.number w).right_is in
    let second : List ℕ = c.text_at-second.result.now in
    c.in_ok-value.ensures ∙ ap (λ (xs : List ℕ). xs ++ second) x ∙ ap (λ (ys : List ℕ). w.before ++ ys) y
