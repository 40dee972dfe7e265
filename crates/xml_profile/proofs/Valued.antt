-- From tokens that a value's sink took to what the bytes spell, and where they go wrong.
use Rattle.std.proofs.Common.{◌≡◌, ℕ, Bool, true, false, List, [], ◌∷◌, ◌++◌, refl, ap, sym, ◌∙◌, subst, inl, inr, append_assoc, append-nil}
use Rattle.std.specs.Prelude.{Option, Some, None, option_and_then, if◌then◌else◌}
use Rattle.std.specs.List.{list_all, flat_map}
use Rattle.std.specs.Str.{chars}
use Rattle.std.proofs.lemmas.Str.{encodes-chars}
use lib.Utf8.{encodes, encode}
use Rattle.xml_tokens.specs.Tokens.{Token, AreTokens}
use Rattle.xml_tokenizer.specs.LineEnds.{line_ends, line_end_of}
use Rattle.xml_tokenizer.specs.Runs.{IsRun, characters}
use Rattle.xml_tokenizer.specs.Standing.{Stands, StandsAt, BreaksAt, IsBad}
use Rattle.xml_tokenizer.specs.Taking.{taken}
use Rattle.xml_tokenizer.specs.declared.scan.Scan.{Scan}
use Rattle.xml_tokenizer.specs.declared.tokenizer.Tokenizer.{Tokenizer}
use Rattle.xml_nodes.proofs.CharacterLemmas.{chars_text}
use Rattle.xml_nodes.proofs.ValuePlace.{StandsValue, RefusesValue, value_broken_off, refused_spells_no_value, value_refused_at}
use Rattle.xml_nodes.specs.Content.{is_value_piece, given}
use Rattle.xml_nodes.specs.Spelling.{SpellsValue}
use Rattle.xml_profile.specs.Reading.{IsBadValue}
use Rattle.xml_profile.specs.Valuing.{value_step}

-- the tokens are a value's, and give these bytes behind those that stand
pub record Gives (value more : List ℕ) (tokens : List Token) : Type 0 where
  pub each : list_all is_value_piece tokens ≡ true
  pub gives : more ≡ value ++ flat_map given tokens

pub taken_gives : (tokens : List Token) (value more : List ℕ) → taken value_step value tokens ≡ Some more → Gives value more tokens
taken_gives [] value more e = record { each = refl; gives = let same : value ≡ more = cc in sym same ∙ sym (append-nil value) }
taken_gives (t ∷ ts) value more e = by_piece (is_value_piece t) refl e (λ f. taken_gives ts (value ++ given t) more f) where
  by_piece : (b : Bool) → is_value_piece t ≡ b → option_and_then (λ next. taken value_step next ts) (if b then Some (value ++ given t) else None) ≡ Some more
      → (taken value_step (value ++ given t) ts ≡ Some more → Gives (value ++ given t) more ts) → Gives value more (t ∷ ts)
  by_piece true p f next = let rest = next f in record { each = rw p rest.each; gives = rest.gives ∙ append_assoc value (given t) (flat_map given ts) }
  by_piece false p f next = cc

characters_taken : (cs value : List ℕ) → taken value_step value (characters cs) ≡ Some (value ++ encodes cs)
characters_taken [] value = ap (λ z. Some z) (sym (append-nil value))
characters_taken (c ∷ cs) value = characters_taken cs (value ++ encode c) ∙ ap (λ z. Some z) (append_assoc value (encode c) (encodes cs))

-- a run gives its bytes
pub run_taken : (run value : List ℕ) → IsRun run → taken value_step value (characters (chars run)) ≡ Some (value ++ run)
run_taken run value r = characters_taken (chars run) value ∙ ap (λ z. Some (value ++ z)) (encodes-chars run (chars_text run r.text))

stands_value : (front raw held : List ℕ) (scan : Scan) (tokens : List Token) (value : List ℕ) → StandsAt front raw held scan tokens → taken value_step [] tokens ≡ Some value
    → StandsValue front raw held scan
stands_value front raw held scan tokens value s e =
    record { tokens = tokens; each = (taken_gives tokens [] value e).each; cut = s.cut; rest = s.rest; kept = s.kept; waits = s.waits }

-- bytes that are whole tokens, which were taken, spell the value
pub taken_spells : (bytes value : List ℕ) (tokens : List Token) → taken value_step [] tokens ≡ Some value → AreTokens tokens (line_ends bytes) [] → SpellsValue bytes value
taken_spells bytes value tokens e cut =
    let g = taken_gives tokens [] value e in
    record { tokens = tokens; cut = cut; each = g.each; gives = g.gives }

-- the last token breaks off
pub value_ends_bad : (t : Tokenizer) (bytes value : List ℕ) (tokens : List Token) → taken value_step [] tokens ≡ Some value → Stands t tokens bytes
    → ((others : List Token) → AreTokens others (line_ends bytes) [] → ⊥) → IsBadValue bytes t.start
value_ends_bad t bytes value tokens e s broken =
    let h = s.read in
    let place = value_broken_off h.front h.raw t.held.items t.scan (stands_value h.front h.raw t.held.items t.scan tokens value h.behind e) in
    record {
      none = λ v p. broken p.tokens p.cut;
      place = rw (h.whole, h.begins) place;
    }

refuses : (value held : List ℕ) (scan : Scan) (c : ℕ) → IsBad value_step value held scan c → RefusesValue held scan c
refuses value held scan c (inl dead) = inl dead
refuses value held scan c (inr (w, none)) = inr (w, λ t i. by_piece (is_value_piece t) (value ++ given t) (none t i)) where
  by_piece : (b : Bool) (v : List ℕ) → ◌≡◌ {A = Option (List ℕ)} (if b then Some v else None) None → b ≡ false
  by_piece true v f = cc
  by_piece false v f = refl

-- a byte is bad
pub value_breaks_bad : (bytes : List ℕ) (at : ℕ) → BreaksAt value_step [] [] bytes at → IsBadValue bytes at
value_breaks_bad bytes at b =
    let s = stands_value b.front b.raw b.held b.scan b.more b.last b.behind b.took in
    let r = refuses b.last b.held b.scan (line_end_of b.c) b.bad in
    record {
      none = λ v p. refused_spells_no_value b.front b.raw b.held b.scan s b.c b.kept r b.rest v (subst (λ z. SpellsValue z v) b.whole p);
      place = rw (b.whole, b.begins) (value_refused_at b.front b.raw b.held b.scan s b.c b.kept r b.rest);
    }
