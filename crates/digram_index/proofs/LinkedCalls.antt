-- Linked occurrences that call a rule, by the rule's number.
use Rattle.std.proofs.Common.{◌≡◌, ◌<◌, ℕ, List, map, length, get_or, Option, Some, None, refl, ap, sym, ◌∙◌, subst}
use Rattle.slt_grammar.specs.Names.{Bottom as BottomLabel, Symbol as SymbolLabel, Call as CallLabel, Param as ParamLabel}
use Rattle.digram_index.specs.declared.patterns.Mark.{Mark}
use Rattle.digram_index.specs.declared.patterns.Mark.TheVariants.{Bottom, Symbol, Call, Param}
use Rattle.digram_index.specs.Digrams.{Cell}
use Rattle.digram_index.specs.Linked.{AreKnown, IsKnown, cell_of, digram_of, label_of}
use Rattle.digram_index.specs.Numbers.{Numbering, place_of}
use Rattle.digram_index.specs.Spots.{Spot, Entered, IsSpotCalling, spot_at}
use Rattle.digram_index.proofs.CellLemmas.{cell-at, cell-spot}
use Rattle.digram_index.proofs.NumberLemmas.{number-back}

-- the mark of a call has the rule's number
call-mark : (ns : List ℕ) (m : Mark) (rule number : ℕ) → IsKnown ns m → label_of ns m ≡ CallLabel rule → place_of ns number ≡ rule → rule < length ns → m ≡ Call number
call-mark ns Bottom rule number K e p h = absurd (let z : BottomLabel ≡ CallLabel rule = e in cc)
call-mark ns (Symbol f) rule number K e p h = absurd (let z : SymbolLabel f ≡ CallLabel rule = e in cc)
call-mark ns (Call n) rule number K e p h =
    let z : CallLabel (place_of ns n) ≡ CallLabel rule = e in
    let q : place_of ns n ≡ rule = cc in
    ap Call (sym (number-back ns n K) ∙ ap (λ (x : ℕ). get_or ns x 0) (q ∙ sym p) ∙ number-back ns number (subst (λ (x : ℕ). x < length ns) (sym p) h))
call-mark ns Param rule number K e p h = absurd (let z : ParamLabel ≡ CallLabel rule = e in cc)

module _ (n : Numbering) (e : Entered) (rule number : ℕ) (back : place_of n.numbers number ≡ rule) where
  -- the occurrence of a call by number is linked as one of the rule
  pub call-linked : (k : ℕ) → IsSpotCalling e.spots number k → (o : Cell) × ((get_or (map (cell_of n.numbers) e.spots) k None ≡ Some o) × (o.digram.lower ≡ CallLabel rule))
  call-linked k S = (
    record { digram = digram_of n.numbers S.0.pattern; rank = S.0.pattern.rank; upper = S.0.upper },
    (cell-spot n e k S.0 S.1.0, ap (label_of n.numbers) S.1.1 ∙ ap CallLabel back),
  )

  -- and the other way round
  pub linked-call : AreKnown n e → rule < length n.numbers → (k : ℕ) (o : Cell) → get_or (map (cell_of n.numbers) e.spots) k None ≡ Some o → o.digram.lower ≡ CallLabel rule → IsSpotCalling e.spots number k
  linked-call K h k o c l = at (spot_at e k) refl
    where
      same : (a b : Cell) → Some a ≡ Some b → a ≡ b
      same a b q = cc

      at : (t : Option Spot) → spot_at e k ≡ t → IsSpotCalling e.spots number k
      at None y = absurd (let z : None ≡ Some o = sym (cell-at n.numbers e.spots k ∙ ap (cell_of n.numbers) y) ∙ c in cc)
      at (Some s) y =
          let w = same (record { digram = digram_of n.numbers s.pattern; rank = s.pattern.rank; upper = s.upper }) o (sym (cell-spot n e k s y) ∙ c) in
          (s, (y, call-mark n.numbers s.pattern.lower rule number (K.lower k s y) (ap (λ (a : Cell). a.digram.lower) w ∙ l) back h))
