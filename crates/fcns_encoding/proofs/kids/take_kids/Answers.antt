use Rattle.std.proofs.Common.{◌≡◌, ◌++◌, ◌∷◌, [], refl, ap, sym, ◌∙◌, length, take, ◌-◌, subst, append-nil, arith}
use Rattle.fcns_encoding.specs.declared.part.Part.TheVariants.{Begun, Whole}
use Rattle.fcns_encoding.specs.Cells.{AreUsed}
use Rattle.fcns_encoding.specs.Folding.{begun_in, waiting}
use Rattle.fcns_encoding.proofs.BuildLemmas.{taking_none, taken_begun, taken_all, top_whole}
use Rattle.fcns_encoding.proofs.CellLemmas.{terms_zero, number_within}
use Rattle.fcns_encoding.proofs.PartLemmas.{used-none, used-begun, used-whole, begun-append}
use Rattle.fcns_encoding.proofs.kids.take_kids.Goals as goal

pub loop-part-init : goal.loop-part-init
loop-part-init c = record {
  taking = λ names log b. taking_none names _ _ log b (terms_zero c.args.subterms.now);
  used = used-none _ _ 0;
  depth = refl;
}

pub returns-in-Begun-clause-taken : goal.returns-in-Begun-clause-taken
returns-in-Begun-clause-taken c names log b =
    taken_begun names _ c.pop.new.self.items _ log _ c.in-Begun.symbol (c.in-Some.ensures.items ∙ ap (λ p. c.pop.new.self.items ++ p ∷ []) c.in-Begun.is) (c.loop-part.invariant.taking names log b)

pub returns-in-Begun-clause-used : goal.returns-in-Begun-clause-used
returns-in-Begun-clause-used c used =
    used-begun _ _ c.pop.new.self.items _ c.in-Begun.symbol (c.in-Some.ensures.items ∙ ap (λ p. c.pop.new.self.items ++ p ∷ []) c.in-Begun.is) (c.loop-part.invariant.used used)

pub returns-in-Begun-clause-depth : goal.returns-in-Begun-clause-depth
returns-in-Begun-clause-depth c =
    sym c.loop-part.invariant.depth ∙ ap begun_in (c.in-Some.ensures.items ∙ ap (λ p. c.pop.new.self.items ++ p ∷ []) c.in-Begun.is) ∙ begun-append c.pop.new.self.items (Begun c.in-Begun.symbol ∷ [])

pub node-requires-clause-second : goal.node-requires-clause-second
node-requires-clause-second c = number_within _ _ _ (c.loop-part.invariant.taking c.requires.0 c.requires.1 c.requires.2).value

pub node-requires-clause-first : goal.node-requires-clause-first
node-requires-clause-first c =
    let e : c.loop-part.stack.items ≡ c.pop.new.self.items ++ Whole c.in-Whole.symbol c.in-Whole.below ∷ [] = c.in-Some.ensures.items ∙ ap (λ p. c.pop.new.self.items ++ p ∷ []) c.in-Whole.is in
    let t = top_whole _ _ c.pop.new.self.items _ c.requires.1 c.loop-part.code c.in-Whole.symbol c.in-Whole.below e (c.loop-part.invariant.taking c.requires.0 c.requires.1 c.requires.2) in
    number_within _ _ _ t.first

pub loop-part-preserved : goal.loop-part-preserved
loop-part-preserved c =
    let e : c.loop-part.stack.items ≡ c.pop.new.self.items ++ Whole c.in-Whole.symbol c.in-Whole.below ∷ [] = c.in-Some.ensures.items ∙ ap (λ p. c.pop.new.self.items ++ p ∷ []) c.in-Whole.is in
    record {
      taking = λ names log b.
          let t = top_whole names _ c.pop.new.self.items _ log c.loop-part.code c.in-Whole.symbol c.in-Whole.below e (c.loop-part.invariant.taking names log b) in
          t.goes _ _ c.in_ok-code-in-Whole.ensures.keeps (c.in_ok-code-in-Whole.ensures.term t.a t.b t.first t.second);
      used = λ used. used-whole _ _ _ _ c.pop.new.self.items _ c.in-Whole.symbol e c.in_ok-code-in-Whole.ensures.extends (c.loop-part.invariant.used used);
      depth = let more : begun_in (c.pop.new.self.items ++ Whole c.in-Whole.symbol c.in-Whole.below ∷ []) ≡ begun_in c.pop.new.self.items = begun-append c.pop.new.self.items (Whole c.in-Whole.symbol c.in-Whole.below ∷ []) ∙ omega arith in
          sym more ∙ ap begun_in (sym e) ∙ c.loop-part.invariant.depth;
    }

pub returns-clause-taken : goal.returns-clause-taken
returns-clause-taken c names log b =
    let none : c.pop.new.self.items ≡ [] = c.in_default.ensures.rest ∙ ap (λ n. take (n - 1) c.loop-part.stack.items) c.in_default.ensures.cases.0 in
    taken_all names _ c.pop.new.self.items _ log _ c.in_default.ensures.items (ap length none) (c.loop-part.invariant.taking names log b)

pub returns-clause-used : goal.returns-clause-used
returns-clause-used c used =
    subst (λ ps. AreUsed c.loop-part.subterms (c.loop-part.code ∷ waiting ps)) (c.in_default.ensures.items ∙ append-nil c.pop.new.self.items) (c.loop-part.invariant.used used)
