use Rattle.std.proofs.Common.{◌≡◌, ◌≤◌, None, Some, refl, sym, ◌∙◌, arith}
use Rattle.plain_tree.specs.Tree.{node_count}
use Rattle.preorder_address.specs.TreeNumbers.{text_rank_at}
use Rattle.slt_grammar.specs.Grammars.{value}
use Rattle.slt_grammar.specs.Keyed.{rules_of}
use Rattle.store_core.specs.StoreOf.{parts_of}
use Rattle.store_core.proofs.Shown.{no_rank, not_below, ranked-there, walk_shows}
use Rattle.segment_counts.proofs.Coded.{weight-coded}
use Rattle.store_core.proofs.showing.walk_to.Goals as goal

pub returns-in_default-clause-refused : goal.returns-in_default-clause-refused
returns-in_default-clause-refused g c = λ old new same.
    let held = c.requires.held in
    let rank : None ≡ text_rank_at held.tree c.args.number = sym c.in_default.is ∙ c.text_rank.ensures.rank held.tree held.stand.code in
    (c.args.number, refl, record { parts = parts_of c.args.store.now; tree = held.tree; held = same; stand = held.stand; past = no_rank held.tree c.args.number rank })

pub returns-in-Some-2-clause-shows : goal.returns-in-Some-2-clause-shows
returns-in-Some-2-clause-shows g c = λ t stand.
    let begins = rw c.in-Some-2.is at c.in_ok-walk.ensures.begins in
    let used = rw c.in-Some-2.is at c.in_ok-walk.ensures.texts in
    let rank : text_rank_at t c.args.number ≡ Some c.in-Some-2.walk.place.used = rw used (sym (c.text_rank.ensures.rank t stand.code) ∙ c.in-Some.is) in
    (ranked-there t c.args.number c.in-Some-2.walk.place.used rank, walk_shows c.args.store.now c.in-Some-2.walk t c.args.number stand begins rank)

pub returns-in-None-clause-refused : goal.returns-in-None-clause-refused
returns-in-None-clause-refused g c = λ old new same.
    let held = c.requires.held in
    let some = rw c.in-None.is at c.in_ok-walk.ensures.some in
    let count = weight-coded c.args.store.now.names held.tree (value (rules_of c.args.store.now.grammar.rules)) held.stand.code in
    let past : node_count held.tree ≤ c.args.number = not_below c.args.number (node_count held.tree) (λ below. let no = some.1 (omega (arith, count)) in cc) in
    (c.args.number, refl, record { parts = parts_of c.args.store.now; tree = held.tree; held = same; stand = held.stand; past = past })
