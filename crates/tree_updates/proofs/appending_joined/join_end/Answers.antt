use Rattle.std.proofs.Common.{◌++◌, ℕ, List, ap, ◌∙◌}
use Rattle.tree_updates.proofs.AppendedTexts.{end-there}
use Rattle.tree_updates.proofs.appending_joined.join_end.Goals as goal

pub text_at-before-requires : goal.text_at-before-requires
text_at-before-requires c =
    let r = c.requires.store in
    record { store = (r.0, c.args.last.now.number, r.4.before, _, r.3, c.requires.last, end-there r.0 r.1 c.args.last.now.number r.2 r.4) }

pub returns-clause-rank : goal.returns-clause-rank
returns-clause-rank c = λ t n F i m. let s = c.args.store.now in c.text_rank.ensures s.names s.grammar.rules c.args.last.now.number t c.requires.last i.stand.code

pub returns-clause-value : goal.returns-clause-value
returns-clause-value c = λ t n F m i.
    let x = c.text_at-before.ensures t c.args.last.now.number m.before _ i c.requires.last (end-there t n c.args.last.now.number F m) in
    let second : List ℕ = c.as_slice.result.now in
    c.in_ok-value.ensures ∙ ap (λ (xs : List ℕ). xs ++ second) x ∙ ap (λ (ys : List ℕ). m.before ++ ys) c.as_slice.ensures
