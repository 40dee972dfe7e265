-- One more rule whose parts become rules.
use Rattle.std.proofs.Common.{◌≡◌, ◌⊎◌, inl, inr, ℕ, zero, suc, ◌+◌, ◌-◌, ◌<◌, ◌≤◌, List, [], ◌∷◌, ◌++◌, length, get_or, drop, refl, ap, sym, subst, ◌∙◌, arith, append_assoc, append-nil, length-append}
use Rattle.std.proofs.lemmas.Bool.{cases_lt}
use Rattle.std.proofs.lemmas.List.{get_or_append_left}
use Rattle.std.proofs.Math.Seq.{get_or-append_seam}
use Rattle.rule_arena.specs.declared.label.Label.{Label}
use Rattle.rule_arena.specs.declared.label.Label.TheVariants.{Bottom, Symbol, Call, Param}
use Rattle.slt_grammar.specs.Algebras.{ranks_of}
use Rattle.slt_grammar.specs.Bodies.{params, CallsBelow, IsTerm}
use Rattle.slt_grammar.specs.Grammars.{IsGrammar, body_at, no_rule}
use Rattle.slt_grammar.specs.KeyedEdits.{digram_body}
use Rattle.slt_grammar.specs.Terms.{term_algebra}
use Rattle.slt_grammar.specs.declared.digram.Digram.{Digram}
use Rattle.slt_grammar.specs.declared.rules.Rule.{Rule}
use Rattle.slt_grammar.proofs.RuleMeanings.{rank_at-ranks_of}
use Rattle.border_repair.specs.Cuts.{IsCleanOver, IsCalmOver, AreCalm}
use Rattle.border_repair.specs.Cutting.{IsCutOff}
use Rattle.border_repair.specs.Digrams.{is, IsSymbol}
use Rattle.border_repair.specs.Expanding.{Expands, StandsIn, IsOutside, IsExposed, IsExposing, AreClean, outside_at}
use Rattle.border_repair.specs.Splitting.{whole, HasFront, Closes}
use Rattle.border_repair.proofs.Cleaned.{HaveClean, expanded-clean, body-calm}
use Rattle.border_repair.proofs.Hanging.{clean-later, calm-more}
use Rattle.border_repair.proofs.Outsides.{expands-terms, expands-below, expands-params, expands-same, split-params, split-below, closed-below, calls-below-more}
use Rattle.border_repair.proofs.ReadSteps.{closed-term}
use Rattle.border_repair.proofs.Split.{closed-params}
use Rattle.border_repair.proofs.Suffixes.{terms-same}

pub exposing-start : (G rules : List Rule) (outsides : List (List Label)) → 0 < length rules → outsides ≡ [] → IsExposing G 0 rules outsides
exposing-start G rules outsides s e = record { some = s; many = ap length e; each = λ others q b. absurd (omega arith) }

-- the digram's rule alone
pub first-calm : (d : Digram) (R : Rule) → IsSymbol d.upper → R.body ≡ digram_body [] d.upper (d.place - 1) d.lower → AreCalm d (R ∷ [])
first-calm d R (f, u) b = record { fronts = at; terms = λ r o l. absurd (omega (arith, l, o)); calm = λ r o l. absurd (omega (arith, l, o)) } where
  at : (r : ℕ) → r < 1 → HasFront (body_at (R ∷ []) r)
  at zero l = subst HasFront (sym b) (d.upper, drop 1 (digram_body [] d.upper (d.place - 1) d.lower), refl, λ z. let y : Symbol f ≡ Param = sym u ∙ z in cc)
  at (suc r) l = absurd (omega (arith, l))

module _ (G : List Rule) (g : IsGrammar G) (k : ℕ) (h : k < length G) (rules : List Rule) (outsides : List (List Label)) (i : IsExposing G k rules outsides) where
  -- the parameters of the outsides
  pub ranks-known : (q : ℕ) → q < k → params (outside_at outsides q) ≡ get_or (ranks_of G) q 0
  ranks-known q b = (i.each [] q b).stands.many

  stand : (q : ℕ) → q < k → StandsIn (ranks_of G) (ranks_of rules) (length rules) (outside_at outsides q) q
  stand q b = subst (λ H. StandsIn (ranks_of G) (ranks_of H) (length H) (outside_at outsides q) q) (append-nil rules) (i.each [] q b).stands

  module _ (labels : List Label) (x : Expands (ranks_of G) (outside_at outsides) (body_at G k) (labels ∷ [])) where
    -- the expanded body is one term over the rules so far
    pub expanded-term : IsTerm (ranks_of rules) labels
    expanded-term = (expands-terms (ranks_of G) (ranks_of rules) (length rules) (outside_at outsides) k stand (body_at G k) (labels ∷ []) x (g.each k h).earlier).0

    pub expanded-below : CallsBelow (length rules) labels
    expanded-below = (expands-below (ranks_of G) (ranks_of rules) (length rules) (outside_at outsides) k stand (body_at G k) (labels ∷ []) x (g.each k h).earlier).0

    pub expanded-params : params labels ≡ get_or (ranks_of G) k 0
    expanded-params =
        ap params (sym (append-nil labels)) ∙ expands-params (ranks_of G) (ranks_of rules) (length rules) (outside_at outsides) k stand (body_at G k) (labels ∷ []) x (g.each k h).earlier
        ∙ (g.each k h).linear ∙ sym (rank_at-ranks_of G k)

    -- where the outsides are clean, so is the expanded body
    pub labels-clean : (d : Digram) → AreClean d k rules outsides → IsCleanOver d rules labels
    labels-clean d w s y = (expanded-clean (is d) s (ranks_of G) (outside_at outsides) (body_at G k) (labels ∷ []) x (have-clean (body_at G k) (g.each k h).earlier)).0 where
      have-clean : (ls : List Label) → CallsBelow k ls → HaveClean (is d) s (ranks_of G) (outside_at outsides) ls
      have-clean [] b = tt
      have-clean (Bottom ∷ ls) b = have-clean ls b
      have-clean (Symbol f ∷ ls) b = have-clean ls b
      have-clean (Param ∷ ls) b = have-clean ls b
      have-clean (Call q ∷ ls) b = ((w.clean q b.0 s y, ranks-known q b.0), have-clean ls b.1)

    -- and the start, which has no parameter, is calm
    pub start-calm : k + 1 ≡ length G → (d : Digram) (R : Rule) → R.body ≡ labels → AreClean d k rules outsides → AreCalm d (rules ++ R ∷ [])
    start-calm e d R b w =
        let none : params labels ≡ 0 = expanded-params ∙ rank_at-ranks_of G k ∙ (g.each k h).shaped.start (omega (arith, e)) in
        calm-more d rules R (subst HasFront (sym b) (no-parameter labels expanded-term none)) (λ more. subst (IsTerm (ranks_of (rules ++ R ∷ more))) (sym b) (terms-same rules (R ∷ more) 1 labels expanded-below expanded-term)) (subst (IsCalmOver d rules) (sym b) (λ s y. body-calm (is d) s labels (labels-clean d w s y))) w.calm
      where
        no-parameter : (ls : List Label) → IsTerm (ranks_of rules) ls → params ls ≡ 0 → HasFront ls
        no-parameter [] t n = absurd t
        no-parameter (Bottom ∷ ls) t n = (Bottom, ls, refl, λ z. cc)
        no-parameter (Symbol f ∷ ls) t n = (Symbol f, ls, refl, λ z. cc)
        no-parameter (Call q ∷ ls) t n = (Call q, ls, refl, λ z. cc)
        no-parameter (Param ∷ ls) t n = absurd (omega arith)

    -- the start's body ends the rules
    pub exposed-all : k + 1 ≡ length G → (R : Rule) → R.body ≡ labels → IsExposed G (rules ++ R ∷ []) (outside_at outsides)
    exposed-all e R b =
        let n : length (rules ++ R ∷ []) - 1 ≡ length rules = omega (arith, length-append rules (R ∷ [])) in
        let m : length G - 1 ≡ k = omega arith in
        let last : body_at (rules ++ R ∷ []) (length (rules ++ R ∷ []) - 1) ≡ labels = ap (body_at (rules ++ R ∷ [])) n ∙ ap (λ (S : Rule). S.body) (get_or-append_seam rules R [] no_rule) ∙ b in
        record {
          each = λ r l. i.each (R ∷ []) r (omega arith);
          start = subst (λ j. Expands (ranks_of G) (outside_at outsides) (body_at G j) (body_at (rules ++ R ∷ []) (length (rules ++ R ∷ []) - 1) ∷ [])) (sym m)
              (subst (λ (ls : List Label). Expands (ranks_of G) (outside_at outsides) (body_at G k) (ls ∷ [])) (sym last) x);
          some = omega (arith, length-append rules (R ∷ []), i.some);
        }

    module _ (d : Digram) (news : List Rule) (outside : List Label) (c : IsCutOff d rules news labels outside) where
      all : List (List Label)
      all = outsides ++ outside ∷ []

      kept : (q : ℕ) → q < k → outside_at outsides q ≡ outside_at (outsides ++ outside ∷ []) q
      kept q b = sym (get_or_append_left outsides (outside ∷ []) [] q (omega (arith, i.many)))

      own : outside_at (outsides ++ outside ∷ []) k ≡ outside
      own = ap (λ j. outside_at (outsides ++ outside ∷ []) j) (sym i.many) ∙ get_or-append_seam outsides outside [] []

      below-news : CallsBelow (length news) labels
      below-news = calls-below-more (length rules) (length news) labels (omega (arith, ap length c.grown, length-append rules c.more)) expanded-below

      -- the outside stands in for calls
      new-stands : (others : List Rule) → StandsIn (ranks_of G) (ranks_of (news ++ others)) (length (news ++ others)) outside k
      new-stands others =
          let H : List Rule = news ++ others in
          let all_below = calls-below-more (length news) (length H) labels (omega (arith, length-append news others)) below-news in
          record {
            term = closed-term (ranks_of H) (body_at H) c.piece outside (c.closes others) (c.is others);
            many = closed-params term_algebra (ranks_of H) [] (body_at H) c.piece outside (c.closes others) ∙ ap params (sym (append-nil (whole c.piece))) ∙ split-params H labels (c.piece ∷ []) (c.splits others) ∙ expanded-params;
            below = closed-below H c.piece outside (c.closes others) (split-below H labels (c.piece ∷ []) (c.splits others) all_below).0;
          }

      moved : (others : List Rule) → rules ++ (c.more ++ others) ≡ news ++ others
      moved others = sym (append_assoc rules c.more others) ∙ ap (λ H. H ++ others) (sym c.grown)

      old-outside : (others : List Rule) (q : ℕ) → q < k → IsOutside G (news ++ others) (outside_at (outsides ++ outside ∷ [])) q
      old-outside others q b =
          let o = subst (λ H. IsOutside G H (outside_at outsides) q) (moved others) (i.each (c.more ++ others) q b) in
          let calls = calls-below-more q k (body_at G q) (omega arith) (g.each q (omega arith)).earlier in
          record {
            expanded = o.expanded;
            expands = expands-same (ranks_of G) (outside_at outsides) (outside_at (outsides ++ outside ∷ [])) k kept (body_at G q) (o.expanded ∷ []) calls o.expands;
            piece = o.piece;
            splits = o.splits;
            closes = subst (Closes (ranks_of (news ++ others)) (body_at (news ++ others)) o.piece) (kept q b) o.closes;
            stands = subst (λ t. StandsIn (ranks_of G) (ranks_of (news ++ others)) (length (news ++ others)) t q) (kept q b) o.stands;
          }

      new-outside : (others : List Rule) → IsOutside G (news ++ others) (outside_at (outsides ++ outside ∷ [])) k
      new-outside others = record {
        expanded = labels;
        expands = expands-same (ranks_of G) (outside_at outsides) (outside_at (outsides ++ outside ∷ [])) k kept (body_at G k) (labels ∷ []) (g.each k h).earlier x;
        piece = c.piece;
        splits = c.splits others;
        closes = subst (Closes (ranks_of (news ++ others)) (body_at (news ++ others)) c.piece) (sym own) (c.closes others);
        stands = subst (λ t. StandsIn (ranks_of G) (ranks_of (news ++ others)) (length (news ++ others)) t k) (sym own) (new-stands others);
      }

      -- one more rule is done
      pub exposing-next : IsExposing G (k + 1) news (outsides ++ outside ∷ [])
      exposing-next = record { some = omega (arith, i.some, ap length c.grown, length-append rules c.more); many = omega (arith, length-append outsides (outside ∷ []), i.many); each = λ others q l. by_place others q l (cases_lt q k) } where
        by_place : (others : List Rule) (q : ℕ) → q < k + 1 → (q < k) ⊎ (k ≤ q) → IsOutside G (news ++ others) (outside_at (outsides ++ outside ∷ [])) q
        by_place others q l (inl b) = old-outside others q b
        by_place others q l (inr b) = let same : k ≡ q = omega arith in subst (IsOutside G (news ++ others) (outside_at (outsides ++ outside ∷ []))) same (new-outside others)

      -- the outsides stay clean, and the rules calm
      pub clean-next : AreClean d k rules outsides → AreClean d (k + 1) news (outsides ++ outside ∷ [])
      clean-next w = record { calm = c.calm (labels-clean d w) w.calm; clean = λ q l. by_place q l (cases_lt q k) } where
        by_place : (q : ℕ) → q < k + 1 → (q < k) ⊎ (k ≤ q) → IsCleanOver d news (outside_at (outsides ++ outside ∷ []) q)
        by_place q l (inl b) = subst (IsCleanOver d news) (kept q b) (clean-later d rules c.more news (outside_at outsides q) c.grown (w.clean q b))
        by_place q l (inr b) = let same : k ≡ q = omega arith in subst (λ j. IsCleanOver d news (outside_at (outsides ++ outside ∷ []) j)) same (subst (IsCleanOver d news) (sym own) (c.clean (labels-clean d w)))
