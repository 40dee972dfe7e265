use Rattle.std.proofs.Common.{◌∙◌, Option, Some, ap, arith, subst, sym}
use Rattle.std.specs.Prelude.{IfNone, IfSome, slice_get}
use Rattle.std.proofs.lemmas.Option.{IfSome_then}
use Rattle.preorder_address.specs.Spots.{IsSpot}
use Rattle.preorder_address.specs.declared.spot.Spot.{Spot}
use Rattle.tree_updates.proofs.AttributeSpots.{attribute-symbol, attribute-within, spot-attribute}
use Rattle.tree_updates.proofs.StoreLemmas.{none-told, total-is}
use Rattle.tree_updates.proofs.kid_attributes.attribute_at.Goals as goal

none-more : {X P Q : Type 0} (o : Option X) → IfNone o P → (P → Q) → IfNone o Q
none-more (Some x) p f = tt
none-more _ p f = f p

pub returns-in_default-clause-no : goal.returns-in_default-clause-no
returns-in_default-clause-no g c = λ t y i h.
    let low = attribute-within t c.args.number y h in
    let total = total-is c.args.store.now t i c.limit-limit.ensures.keyed.grammar in
    none-told c.in_ok-found.found c.in_default.is c.in_ok-found.ensures.some.1 (omega (arith, low, total))

pub returns-clause-yes : goal.returns-clause-yes
returns-clause-yes g c =
    let s = c.args.store.now in
    let spot : Spot = c.in-Some.spot in
    let is = subst (λ (o : Option Spot). IfSome o (IsSpot s.names s.grammar.rules c.args.number)) c.in-Some.is c.in_ok-found.ensures.spot in
    IfSome_then c.attribute_name.result c.attribute_name.ensures.yes (λ y e t i. spot-attribute s t i c.args.number spot is y.now (ap (slice_get s.names) (sym c.symbol.ensures) ∙ e))

pub returns-clause-no : goal.returns-clause-no
returns-clause-no g c =
    let s = c.args.store.now in
    let spot : Spot = c.in-Some.spot in
    let is = subst (λ (o : Option Spot). IfSome o (IsSpot s.names s.grammar.rules c.args.number)) c.in-Some.is c.in_ok-found.ensures.spot in
    none-more c.attribute_name.result c.attribute_name.ensures.no (λ never t y i h. never y (ap (slice_get s.names) c.symbol.ensures ∙ attribute-symbol s t i c.args.number spot is y h))
