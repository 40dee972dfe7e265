use Rattle.std.proofs.Common.{◌≡◌, ◌-◌, ℕ, List, [], ◌∷◌, length, ap, sym, subst, arith, refl}
use Rattle.std.proofs.lemmas.Result.{err_from_is_err_and}
use Rattle.slt_grammar.specs.Grammars.{size}
use Rattle.slt_grammar.specs.Keyed.{KeyedRule, rules_of}
use Rattle.slt_grammar.specs.Ranks.{greatest_rank}
use Rattle.slt_grammar.specs.RuleValues.{HaveOtherValues}
use Rattle.slt_grammar.specs.declared.level.Level.{Level}
use Rattle.slt_grammar.specs.declared.rules.Rule.{Rule}
use Rattle.fcns_encoding.proofs.InternLemmas.{interned}
use Rattle.preorder_address.specs.Spots.{IsSpot}
use Rattle.tree_updates.specs.Numbered.{GetsSymbol}
use Rattle.tree_updates.proofs.RenamedStores.{counts-after, refused-grown, renamed-store}
use Rattle.preorder_address.specs.Marks.{AreMarks}
use Rattle.start_fronts.specs.Moved.{MovesBefore}
use Rattle.segment_counts.specs.Counting.{AreCounts}
use Rattle.segment_counts.specs.Weights.{node_weight}
use Rattle.tree_updates.specs.Fronts.{first_keys}
use Rattle.tree_updates.proofs.AppliedMarks.{names-same}
use Rattle.tree_updates.specs.declared.store.EditError.TheVariants.{Memory}
use Rattle.tree_updates.proofs.StoreLemmas.{refused-there}
use Rattle.plain_tree.specs.NodePairs.{Pair}
use Rattle.plain_tree.specs.declared.edit.Edit.TheVariants.{Rename}
use Rattle.tree_updates.specs.Stores.{IsRefused}
use Rattle.tree_updates.proofs.BroughtNames.{named}
use Rattle.tree_updates.proofs.renaming.rename.Goals as goal

pub returns-in_err-make_room-clause-applies : goal.returns-in_err-make_room-clause-applies
returns-in_err-make_room-clause-applies g c =
    let s = c.args.store.now in
    let a = c.in_ok-found.found in
    let x = c.args.name.now in
    let grown = interned s.names c.intern.new.self a.kind x x refl c.in_ok-symbol.ensures.kept c.in_ok-symbol.ensures.added in
    let p = err_from_is_err_and c.from_residual-in_err-make_room.result c.from_residual-in_err-make_room.ensures.1 in
    rw (p.1, p.2) (λ t i.
    refused-grown s t i c.args.number x c.requires.name (c.in_ok-found.ensures.allowed t i) a.kind (c.in_ok-found.ensures.kind t i) c.intern.new.self grown c.limit-limit.ensures.keyed.grammar c.make_room.new.grammar c.make_room.new.index
    c.in_err-make_room.ensures.rules c.in_err-make_room.ensures.index)

pub sweep_uncalled-requires-clause-counts : goal.sweep_uncalled-requires-clause-counts
sweep_uncalled-requires-clause-counts g c =
    let s = c.args.store.now in
    let a = c.in_ok-found.found in
    let x = c.args.name.now in
    let r = c.requires.store in
    let n : ℕ = c.args.number in
    let same = c.in_ok-make_room.ensures.rules in
    let H : List Rule = rules_of c.relabel_node.new.grammar.rules in
    let grown = interned s.names c.intern.new.self a.kind x x refl c.in_ok-symbol.ensures.kept c.in_ok-symbol.ensures.added in
    let spot = subst (λ (R : List KeyedRule). IsSpot s.names R n a.spot) (sym same) c.in_ok-found.ensures.spot in
    let gets = subst (λ (R : List KeyedRule). GetsSymbol (rules_of R) H n c.in_ok-symbol.symbol) same (c.relabel_node.ensures.value s.names n spot) in
    let others = subst (λ (R : List KeyedRule). HaveOtherValues (length (rules_of R) - 1) (rules_of R) H) same c.relabel_node.ensures.values in (
      c.intern.new.self,
      counts-after s r.0 r.1 n x c.requires.name (c.in_ok-found.ensures.allowed r.0 r.1) a.kind (c.in_ok-found.ensures.kind r.0 r.1) c.intern.new.self grown c.limit-limit.ensures.keyed.grammar H c.in_ok-symbol.symbol c.in_ok-symbol.ensures.place gets others,
    )

pub returns-clause-applies : goal.returns-clause-applies
returns-clause-applies g c =
    let s = c.args.store.now in
    let a = c.in_ok-found.found in
    let x = c.args.name.now in
    let n : ℕ = c.args.number in
    let same = c.in_ok-make_room.ensures.rules in
    let H : List Rule = rules_of c.relabel_node.new.grammar.rules in
    let grown = interned s.names c.intern.new.self a.kind x x refl c.in_ok-symbol.ensures.kept c.in_ok-symbol.ensures.added in
    let spot = subst (λ (R : List KeyedRule). IsSpot s.names R n a.spot) (sym same) c.in_ok-found.ensures.spot in
    let gets = subst (λ (R : List KeyedRule). GetsSymbol (rules_of R) H n c.in_ok-symbol.symbol) same (c.relabel_node.ensures.value s.names n spot) in
    let others = subst (λ (R : List KeyedRule). HaveOtherValues (length (rules_of R) - 1) (rules_of R) H) same c.relabel_node.ensures.values in
    let w = c.sweep_uncalled.ensures in
    λ t i.
    let lawful = c.limit-limit.ensures.keyed.grammar in
    let allowed = c.in_ok-found.ensures.allowed t i in
    let kind = c.in_ok-found.ensures.kind t i in
    let counts = counts-after s t i n x c.requires.name allowed a.kind kind c.intern.new.self grown lawful H c.in_ok-symbol.symbol c.in_ok-symbol.ensures.place gets others in
    renamed-store s t i n x c.requires.name allowed a.kind kind c.intern.new.self grown lawful H c.in_ok-symbol.symbol c.in_ok-symbol.ensures.place gets c.sweep_uncalled.new.grammar c.sweep_uncalled.new.index c.sweep_uncalled.new.counts
    w.value w.swept (w.counts c.intern.new.self counts) w.index (omega (arith, w.size, c.relabel_node.ensures.size, ap (λ (R : List KeyedRule). size (rules_of R)) same))
    (omega (arith, w.ranks, c.relabel_node.ensures.ranks, ap (λ (R : List KeyedRule). greatest_rank (rules_of R)) same))

pub returns-in_err-make_room-clause-marks : goal.returns-in_err-make_room-clause-marks
returns-in_err-make_room-clause-marks g c =
    subst (λ (R : List KeyedRule). AreMarks c.args.store.now.names R c.find_nameable.new.marks) (sym c.in_err-make_room.ensures.rules) c.find_nameable.ensures.marks

pub returns-clause-marks : goal.returns-clause-marks
returns-clause-marks g c =
    let s = c.args.store.now in
    let a = c.in_ok-found.found in
    let x = c.args.name.now in
    let r = c.requires.store in
    let n : ℕ = c.args.number in
    let same = c.in_ok-make_room.ensures.rules in
    let G : List KeyedRule = s.grammar.rules in
    let H : List KeyedRule = c.relabel_node.new.grammar.rules in
    let names : List Pair = c.intern.new.self in
    let grown = interned s.names names a.kind x x refl c.in_ok-symbol.ensures.kept c.in_ok-symbol.ensures.added in
    let spot = subst (λ (R : List KeyedRule). IsSpot s.names R n a.spot) (sym same) c.in_ok-found.ensures.spot in
    let gets = subst (λ (R : List KeyedRule). GetsSymbol (rules_of R) (rules_of H) n c.in_ok-symbol.symbol) same (c.relabel_node.ensures.value s.names n spot) in
    let others = subst (λ (R : List KeyedRule). HaveOtherValues (length (rules_of R) - 1) (rules_of R) (rules_of H)) same c.relabel_node.ensures.values in
    let moves = subst (λ (R : List KeyedRule). MovesBefore node_weight (first_keys a.spot.levels.items) n R H) same (c.relabel_node.ensures.moves s.names n spot) in
    let lawful = c.limit-limit.ensures.keyed.grammar in
    let counts =
    counts-after s r.0 r.1 n x c.requires.name (c.in_ok-found.ensures.allowed r.0 r.1) a.kind (c.in_ok-found.ensures.kind r.0 r.1) names grown lawful (rules_of H) c.in_ok-symbol.symbol c.in_ok-symbol.ensures.place gets others in
    c.sweep_uncalled.ensures.marks s.names c.move_marks.new.marks
    (c.move_marks.ensures s.names G (λ few.
    let none : names ≡ s.names = names-same s.names ((a.kind, x) ∷ []) names grown (omega (arith, few, c.len-named.ensures.value)) in (
      c.find_nameable.ensures.marks,
      subst (λ (ls : List Level). MovesBefore node_weight (first_keys ls) n G H) (sym c.levels-levels.ensures) moves,
      c.whole_weights-had.ensures s.names G r.1.counts lawful,
      subst (λ (ns : List Pair). AreCounts ns (rules_of H) s.counts) none counts,
    )))

pub returns-in_err-symbol-clause-applies : goal.returns-in_err-symbol-clause-applies
returns-in_err-symbol-clause-applies g c =
    let s = c.args.store.now in
    let p = err_from_is_err_and c.from_residual-in_err-symbol.result c.from_residual-in_err-symbol.ensures.1 in
    rw (p.1, p.2) (λ t i.
    let e = Rename c.args.number c.args.name.now in
    subst (λ (ns : List Pair). IsRefused t e Memory s (named s ns)) (sym c.in_err-symbol.ensures.err) (refused-there t e Memory s tt i))
