use Rattle.std.proofs.Common.{◌≡◌, Some, sym, arith}
use Rattle.plain_tree.specs.Tree.{node_count}
use Rattle.preorder_address.specs.TreeNumbers.{text_rank_at}
use Rattle.segment_counts.proofs.Coded.{weight-coded}
use Rattle.slt_grammar.specs.Grammars.{value}
use Rattle.slt_grammar.specs.Keyed.{rules_of}
use Rattle.store_core.specs.declared.walking.NodeWalk.{NodeWalk}
use Rattle.store_core.proofs.Held.{none-shown}
use Rattle.store_core.proofs.Shown.{not_below, walk_shows}
use Rattle.store_core.proofs.Walks.{stays-anywhere}
use Rattle.store_core.proofs.showing_all.NodeSearch.begin.Goals as goal

pub returns-then-there-clause-search : goal.returns-then-there-clause-search
returns-then-there-clause-search g c =
    let s = c.args.store.now in
    let stands = c.go_to-there.ensures.stands c.if-there.true in
    record {
      search = c.go_to-there.ensures.search;
      walk = stays-anywhere s c.args.self.now.walk _ (c.begin.ensures.inside s.names s.grammar.rules c.args.number c.requires.search.walk.inside stands) c.clear.ensures.capacity c.requires.search.walk;
    }

pub returns-then-there-clause-shows : goal.returns-then-there-clause-shows
returns-then-there-clause-shows g c = λ t stand.
    let s = c.args.store.now in
    let stands = c.go_to-there.ensures.stands c.if-there.true in
    let walk : NodeWalk = record { cursor = c.begin.new.self; place = record { outer = c.clear.new.self; used = c.texts-self.result } } in
    let rank : text_rank_at t c.args.number ≡ Some walk.place.used = sym (c.texts-self.ensures s.names s.grammar.rules c.args.number t stands stand.code) in
    rw c.if-there.true (sym (walk_shows s walk t c.args.number stand (c.begin.ensures.begins s.names s.grammar.rules c.args.number stands) rank))

pub returns-else-there-clause-shows : goal.returns-else-there-clause-shows
returns-else-there-clause-shows g c = λ t stand.
    let s = c.args.store.now in
    let count = weight-coded s.names t (value (rules_of s.grammar.rules)) stand.code in
    let some = c.go_to-there.ensures.some in
    rw c.if-there.false (none-shown t c.args.number (not_below c.args.number (node_count t) (λ below. let no = some.1 (omega (arith, count)) in cc)))
