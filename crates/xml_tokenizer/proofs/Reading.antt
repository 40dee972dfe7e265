-- A tokenizer that has read goes on.
use Rattle.std.proofs.Common.{◌≡◌, ℕ, ◌+◌, ◌<◌, true, false, List, [], ◌∷◌, ◌++◌, length, refl, ap, sym, ◌∙◌, subst, append_assoc, append-nil, length-append, arith}
use Rattle.xml_tokens.specs.Tokens.{Token, AreTokens}
use Rattle.xml_tokenizer.specs.LineEnds.{line_ends, line_ends_after, ends_in_return, begins_dropped, Become}
use Rattle.xml_tokenizer.specs.Scanning.{scanned}
use Rattle.xml_tokenizer.specs.Standing.{StandsAt, HasRead}
use Rattle.xml_tokenizer.specs.declared.scan.Scan.{Scan}
use Rattle.xml_tokenizer.specs.declared.scan.Scan.TheVariants.{Idle}
use Rattle.xml_tokenizer.specs.declared.scan.Step.TheVariants.{On, Whole}
use Rattle.xml_tokenizer.proofs.LineEndLaws.{line_ends-append, return-append, become_lines, become_length, become_kept}
use Rattle.xml_tokenizer.proofs.ScanLaws.{then_scanned}
use Rattle.xml_tokenizer.proofs.WholeScans.{scans}
use Rattle.xml_tokenizer.proofs.Cuts.{tokens_more, tokens_then, cut_prefix}

pub nothing_read : HasRead [] Idle 0 0 [] []
nothing_read = record {
  front = [];
  raw = [];
  whole = refl;
  behind = record { cut = refl; rest = refl; kept = refl; waits = refl };
  counted = refl;
  begins = refl;
}

module _ (held : List ℕ) (scan : Scan) (count start : ℕ) (tokens : List Token) (fed : List ℕ) (h : HasRead held scan count start tokens fed) where
  return_of : ends_in_return false fed ≡ ends_in_return (ends_in_return false h.front) h.raw
  return_of = ap (ends_in_return false) h.whole ∙ return-append false h.front h.raw

  lines_of : line_ends fed ≡ line_ends h.front ++ held
  lines_of = ap line_ends h.whole ∙ line_ends-append h.front h.raw false ∙ ap (λ z. line_ends h.front ++ z) (sym h.behind.rest)

  -- the bytes are the tokens, and then those held
  pub cut_of : AreTokens tokens (line_ends fed) held
  cut_of = subst (λ z. AreTokens tokens z held) (sym lines_of) (tokens_more tokens (line_ends h.front) [] held h.behind.cut)

  -- where something is held the bytes are no whole tokens: a scan that goes on over what is held says so
  pub not_whole : (others : List Token) → (held ≡ [] → ⊥) → AreTokens others (line_ends fed) [] → ⊥
  not_whole others some f =
      let p = cut_prefix tokens others (line_ends fed) held cut_of f in
      last held scan p.0 some h.behind.waits p.2 where
        behind : (m : List ℕ) (t : Scan) → On t ≡ scanned Whole m → ⊥
        behind [] t e = cc
        behind (c ∷ m) t e = cc

        last : (x : List ℕ) (t : Scan) (vs : List Token) → (x ≡ [] → ⊥) → scanned (On Idle) x ≡ On t → AreTokens vs x [] → ⊥
        last x t [] n w f = n f
        last x t (v ∷ vs) n w (y, mid, is, e, others) =
            behind mid t (sym w ∙ ap (scanned (On Idle)) e ∙ then_scanned (On Idle) Whole y mid (scans v y is))

  module _ (x y : List ℕ) (g : Become (ends_in_return false fed) x y) where
    held_on : held ++ y ≡ line_ends_after (ends_in_return false h.front) (h.raw ++ x)
    held_on = sym (
        line_ends-append h.raw x (ends_in_return false h.front)
        ∙ ap (λ z. z ++ line_ends_after (ends_in_return (ends_in_return false h.front) h.raw) x) (sym h.behind.rest)
        ∙ ap (λ z. held ++ line_ends_after z x) (sym return_of)
        ∙ ap (λ z. held ++ z) (become_lines (ends_in_return false fed) x y g)
        )

    kept_on : begins_dropped (ends_in_return false h.front) (h.raw ++ x) ≡ false
    kept_on = by h.raw refl where
      by : (r : List ℕ) → h.raw ≡ r → begins_dropped (ends_in_return false h.front) (r ++ x) ≡ false
      by [] e =
          subst (λ z. begins_dropped z x ≡ false) (return_of ∙ ap (λ r. ends_in_return (ends_in_return false h.front) r) e)
          (become_kept (ends_in_return false fed) x y g)
      by (k ∷ r) e = subst (λ z. begins_dropped (ends_in_return false h.front) z ≡ false) e h.behind.kept

    pub stands_more : (next : Scan) → scanned (On scan) y ≡ On next → StandsAt h.front (h.raw ++ x) (held ++ y) next tokens
    stands_more next f = record { cut = h.behind.cut; rest = held_on; kept = kept_on; waits = then_scanned (On Idle) (On scan) held y h.behind.waits ∙ f }

    whole_on : fed ++ x ≡ h.front ++ (h.raw ++ x)
    whole_on = ap (λ z. z ++ x) h.whole ∙ append_assoc h.front h.raw x

    count_on : count + length y ≡ length (fed ++ x)
    count_on = omega (arith, h.counted, become_length (ends_in_return false fed) x y g, length-append fed x)

    -- bytes at which the token goes on
    pub read_more : (next : Scan) → scanned (On scan) y ≡ On next → HasRead (held ++ y) next (count + length y) start tokens (fed ++ x)
    read_more next f = record { front = h.front; raw = h.raw ++ x; whole = whole_on; behind = stands_more next f; counted = count_on; begins = h.begins }

    -- bytes that make those held whole tokens
    pub read_tokens : (ts : List Token) → AreTokens ts (held ++ y) [] → HasRead [] Idle (count + length y) (count + length y) (tokens ++ ts) (fed ++ x)
    read_tokens ts are =
        let lines : line_ends (fed ++ x) ≡ line_ends h.front ++ (held ++ y) =
        ap line_ends whole_on ∙ line_ends-append h.front (h.raw ++ x) false ∙ ap (λ z. line_ends h.front ++ z) (sym held_on) in
        record {
          front = fed ++ x;
          raw = [];
          whole = sym (append-nil (fed ++ x));
          behind = record {
            cut = subst (λ z. AreTokens (tokens ++ ts) z []) (sym lines)
                (tokens_then tokens ts (line_ends h.front ++ (held ++ y)) (held ++ y) [] (tokens_more tokens (line_ends h.front) [] (held ++ y) h.behind.cut) are);
            rest = refl;
            kept = refl;
            waits = refl;
          };
          counted = count_on;
          begins = count_on;
        }

  -- a #xA that belongs to the #xD just before
  module _ (cr : ends_in_return false fed ≡ true) where
    none_more : line_ends_after (ends_in_return false fed) (10 ∷ []) ≡ []
    none_more = ap (λ z. line_ends_after z (10 ∷ [])) cr

    count_one : count + 1 ≡ length (fed ++ 10 ∷ [])
    count_one = omega (arith, h.counted, length-append fed (10 ∷ []))

    pub dropped_idle : held ≡ [] → HasRead held scan (count + 1) (count + 1) tokens (fed ++ 10 ∷ [])
    dropped_idle e =
        let lines : line_ends (fed ++ 10 ∷ []) ≡ line_ends h.front =
        line_ends-append fed (10 ∷ []) false ∙ ap (λ z. line_ends fed ++ z) none_more ∙ append-nil (line_ends fed)
        ∙ lines_of ∙ ap (λ z. line_ends h.front ++ z) e ∙ append-nil (line_ends h.front) in
        record {
          front = fed ++ 10 ∷ [];
          raw = [];
          whole = sym (append-nil (fed ++ 10 ∷ []));
          behind = record { cut = subst (λ z. AreTokens tokens z []) (sym lines) h.behind.cut; rest = e; kept = refl; waits = h.behind.waits };
          counted = count_one;
          begins = count_one;
        }

    some_raw : 0 < length held → (r : List ℕ) → h.raw ≡ r → begins_dropped (ends_in_return false h.front) (r ++ 10 ∷ []) ≡ false
    some_raw n [] e = absurd (omega (arith, n, ap length (h.behind.rest ∙ ap (λ z. line_ends_after (ends_in_return false h.front) z) e)))
    some_raw n (k ∷ r) e = subst (λ z. begins_dropped (ends_in_return false h.front) z ≡ false) e h.behind.kept

    pub dropped_busy : 0 < length held → HasRead held scan (count + 1) start tokens (fed ++ 10 ∷ [])
    dropped_busy n = record {
      front = h.front;
      raw = h.raw ++ 10 ∷ [];
      whole = ap (λ z. z ++ 10 ∷ []) h.whole ∙ append_assoc h.front h.raw (10 ∷ []);
      behind = record {
        cut = h.behind.cut;
        rest = sym (
            line_ends-append h.raw (10 ∷ []) (ends_in_return false h.front)
            ∙ ap (λ z. z ++ line_ends_after (ends_in_return (ends_in_return false h.front) h.raw) (10 ∷ [])) (sym h.behind.rest)
            ∙ ap (λ z. held ++ line_ends_after z (10 ∷ [])) (sym return_of)
            ∙ ap (λ z. held ++ z) none_more
            ∙ append-nil held
            );
        kept = some_raw n h.raw refl;
        waits = h.behind.waits;
      };
      counted = count_one;
      begins = h.begins;
    }
