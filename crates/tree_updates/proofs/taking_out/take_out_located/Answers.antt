use Rattle.std.proofs.Common.{◌≤◌, ◌+◌, ℕ, List, sym, subst, arith}
use Rattle.plain_tree.specs.declared.edit.Edit.TheVariants.{Delete}
use Rattle.plain_tree.specs.Edits.{placed}
use Rattle.slt_grammar.specs.Keyed.{rules_of}
use Rattle.slt_grammar.specs.Standing.{StandsFor}
use Rattle.slt_grammar.specs.declared.level.Level.{Level}
use Rattle.path_isolation.specs.Isolations.{room_along}
use Rattle.tree_updates.specs.Fronts.{IsSameBeforeFirst}
use Rattle.tree_updates.proofs.NodeExtents.{all-go, extent-low, fits, left-less, left-nodes, left-stands, nodes-go, texts-go}
use Rattle.tree_updates.proofs.NodeWays.{lead-there, node-low}
use Rattle.tree_updates.proofs.taking_out.take_out_located.Goals as goal

pub way_to-way-requires-clause-counts : goal.way_to-way-requires-clause-counts
way_to-way-requires-clause-counts g c = c.requires.store.1.counts

pub way_to-way-requires-clause-low : goal.way_to-way-requires-clause-low
way_to-way-requires-clause-low g c = let r = c.requires.store in node-low c.args.store.now.names c.args.store.now.grammar.rules r.0 c.args.number r.1.stand.code (extent-low r.0 c.args.number c.args.extent r.2)

pub lift_along-requires-clause-leads : goal.lift_along-requires-clause-leads
lift_along-requires-clause-leads g c =
    let r = c.requires.store in
    let a = c.args.store.now in
    (c.args.number, lead-there a.names a.grammar.rules r.0 c.args.number _ r.1.stand.code (extent-low r.0 c.args.number c.args.extent r.2) c.way_to-way.ensures.levels)

pub lift_along-requires-clause-room : goal.lift_along-requires-clause-room
lift_along-requires-clause-room g c =
    let G = c.args.store.now.grammar in
    subst (λ (ls : List Level). room_along G.rules ls ≤ G.spare_nodes) (sym c.way_to-way.ensures.levels) c.requires.room

pub lift_along-requires-clause-links : goal.lift_along-requires-clause-links
lift_along-requires-clause-links g c =
    let G = c.args.store.now.grammar in
    subst (λ (ls : List Level). room_along G.rules ls + 1 ≤ c.args.store.now.index.spare_links) (sym c.way_to-way.ensures.levels) c.requires.links

pub remove_range-requires : goal.remove_range-requires
remove_range-requires g c =
    let r = c.requires.store in
    let a = c.args.store.now in
    let lead = lead-there a.names a.grammar.rules r.0 c.args.number _ r.1.stand.code (extent-low r.0 c.args.number c.args.extent r.2) c.way_to-way.ensures.levels in
    fits (rules_of a.grammar.rules) (rules_of c.lift_along.new.grammar.rules) a.names a.texts.texts r.0 r.1.stand c.args.number (extent-low r.0 c.args.number c.args.extent r.2) c.args.extent r.2 (c.lift_along.ensures.value c.args.number lead) r.3

pub lower_start-requires-clause-nodes : goal.lower_start-requires-clause-nodes
lower_start-requires-clause-nodes g c =
    let r = c.requires.store in
    let a = c.args.store.now in
    let lead = lead-there a.names a.grammar.rules r.0 c.args.number _ r.1.stand.code (extent-low r.0 c.args.number c.args.extent r.2) c.way_to-way.ensures.levels in
    nodes-go (rules_of a.grammar.rules) (rules_of c.lift_along.new.grammar.rules) a.names a.texts.texts r.0 r.1.stand c.args.number (extent-low r.0 c.args.number c.args.extent r.2) c.args.extent r.2 (c.lift_along.ensures.value c.args.number lead) r.3 a.counts r.1.counts c.limit-limit.ensures.keyed.grammar

pub lower_start-requires-clause-all : goal.lower_start-requires-clause-all
lower_start-requires-clause-all g c =
    let r = c.requires.store in
    let a = c.args.store.now in
    let lead = lead-there a.names a.grammar.rules r.0 c.args.number _ r.1.stand.code (extent-low r.0 c.args.number c.args.extent r.2) c.way_to-way.ensures.levels in
    all-go (rules_of a.grammar.rules) (rules_of c.lift_along.new.grammar.rules) a.names a.texts.texts r.0 r.1.stand c.args.number (extent-low r.0 c.args.number c.args.extent r.2) c.args.extent r.2 (c.lift_along.ensures.value c.args.number lead) r.3 a.counts r.1.counts c.limit-limit.ensures.keyed.grammar

pub lower_start-requires-clause-texts : goal.lower_start-requires-clause-texts
lower_start-requires-clause-texts g c =
    let r = c.requires.store in
    let a = c.args.store.now in
    let lead = lead-there a.names a.grammar.rules r.0 c.args.number _ r.1.stand.code (extent-low r.0 c.args.number c.args.extent r.2) c.way_to-way.ensures.levels in
    texts-go (rules_of a.grammar.rules) (rules_of c.lift_along.new.grammar.rules) a.names a.texts.texts r.0 r.1.stand c.args.number (extent-low r.0 c.args.number c.args.extent r.2) c.args.extent r.2 (c.lift_along.ensures.value c.args.number lead) r.3 a.counts r.1.counts c.limit-limit.ensures.keyed.grammar

pub returns-clause-store : goal.returns-clause-store
returns-clause-store g c = λ t s x v.
    let a = c.args.store.now in
    let n : ℕ = c.args.number in
    let e = c.args.extent in
    let G = rules_of a.grammar.rules in
    let H = rules_of c.lift_along.new.grammar.rules in
    let low = extent-low t n e x in
    let loses = c.lift_along.ensures.value n (lead-there a.names a.grammar.rules t n _ s.stand.code low c.way_to-way.ensures.levels) in
    record {
      stand = subst (λ (ts : List (List ℕ)). StandsFor H a.names ts (placed t (Delete n))) (sym c.remove_range.ensures.texts) (left-stands G H a.names a.texts.texts t s.stand n low e x loses v);
      small = omega (arith, s.small, left-nodes G H a.names a.texts.texts t s.stand n low e x loses v);
      counts = c.lower_start.ensures.counts a.names G H s.counts c.lift_along.ensures.values (left-less G H a.names a.texts.texts t s.stand n low e x loses v);
      index = c.lift_along.ensures.index;
    }

pub returns-clause-marks : goal.returns-clause-marks
returns-clause-marks g c =
    let G = c.args.store.now.grammar.rules in
    let H = c.lift_along.new.grammar.rules in
    c.way_to-way.ensures.marks H (subst (λ (ls : List Level). IsSameBeforeFirst ls G H) c.way_to-way.ensures.levels c.lift_along.ensures.front)
