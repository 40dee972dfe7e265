-- What a value's bytes spell consists of characters.
use Rattle.std.proofs.Common.{◌≡◌, ℕ, true, false, List, [], ◌∷◌, sym, subst}
use Rattle.std.specs.List.{list_all, flat_map}
use Rattle.plain_tree.specs.Lawful.{AreChars}
use Rattle.xml_tokens.specs.Tokens.{Token, Character, Reference, Section, Start, Empty, End, Comment, Instruction, Declaration, Doctype}
use Rattle.xml_tokenizer.specs.LineEnds.{line_ends}
use Rattle.xml_nodes.proofs.Bytes.{cut_lawful}
use Rattle.xml_nodes.proofs.CharacterLemmas.{and_true, no_chars, more_chars, one_char}
use Rattle.xml_nodes.proofs.LineEnds.{no_returns}
use Rattle.xml_nodes.specs.Content.{is_value_piece, given}
use Rattle.xml_nodes.specs.LawfulTokens.{IsLawfulToken, AreLawfulTokens}
use Rattle.xml_nodes.specs.Spelling.{SpellsValue}

piece_chars : (p : Token) → is_value_piece p ≡ true → IsLawfulToken p → AreChars (given p)
piece_chars (Character c) e l = one_char c l
piece_chars (Reference c) e l = one_char c l
piece_chars (Section v) e l = cc
piece_chars (Start n attrs) e l = cc
piece_chars (Empty n attrs) e l = cc
piece_chars (End n) e l = cc
piece_chars (Comment v) e l = cc
piece_chars (Instruction n v) e l = cc
piece_chars Declaration e l = cc
piece_chars Doctype e l = cc

pieces_chars : (ps : List Token) → list_all is_value_piece ps ≡ true → AreLawfulTokens ps → AreChars (flat_map given ps)
pieces_chars [] e l = no_chars
pieces_chars (p ∷ ps) e l =
    let both = and_true (is_value_piece p) (list_all is_value_piece ps) e in
    more_chars (given p) (flat_map given ps) (piece_chars p both.0 l.0) (pieces_chars ps both.1 l.1)

pub value_chars : (bytes value : List ℕ) → SpellsValue bytes value → AreChars value
value_chars bytes value s = subst AreChars (sym s.gives) (pieces_chars s.tokens s.each (cut_lawful s.tokens (line_ends bytes) (no_returns false bytes) s.cut))
