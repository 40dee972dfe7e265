-- A piece of a script, byte by byte.
use Rattle.std.specs.Prelude.{◌≡◌, ◌<◌, ◌+◌, ℕ, List, [], ◌∷◌, ◌++◌, length, take, drop, Option, Some, Result, Ok, Err}
use Rattle.std.proofs.Common.{sym, subst, get_or}
use Rattle.std.proofs.lemmas.List.{append-nil, take_more, take-append-drop}
use Rattle.tree_outside.specs.Outside.{Stays}
use Rattle.store_core.specs.Worlds.{World}
use Rattle.store_shell.specs.Lines.{IsOneLine, IsCut, kept}
use Rattle.store_words.specs.declared.words.Settings.{Settings}
use Rattle.store_shell.specs.Feeding.{Ends, Feeds}
use Rattle.store_shell.specs.declared.script.Flow.{Flow}
use Rattle.store_shell.specs.declared.script.Flow.TheVariants as flow
use Rattle.store_shell.proofs.Cuts.{cut_none, cut_one, cut_append, cut_of, one_more}
use Rattle.store_shell.proofs.Kept.{kept-nil}
use Rattle.store_shell.proofs.Runs.{Did-nil, Did-one, Did-append, Stops-one, Stops-more, Stops-after, Quits-one, Quits-more, Quits-after}

module _ {E : Type 0} {settings : Settings} where
  pub Feeds-nil : (p : List ℕ) (w : World) (x y line : Option (List ℕ)) → IsOneLine p → line ≡ kept p → Stays x y → Feeds {E = E} settings p [] (Ok flow.On) w w x y line
  Feeds-nil p w x y line h e s = record {
    lines = [];
    tail = p;
    cut = subst (λ (bytes : List ℕ). IsCut bytes [] p) (sym (append-nil p)) (cut_none p h);
    does = (Did-nil w x y s, e);
  }

  -- one byte that ends no line
  pub Feeds-byte : (p : List ℕ) (b : ℕ) (w : World) (x line : Option (List ℕ)) → IsOneLine p → (b ≡ 10 → ⊥) → line ≡ kept (p ++ b ∷ []) → Stays x x → Feeds {E = E} settings p (b ∷ []) (Ok flow.On) w w x x line
  Feeds-byte p b w x line h ne e s = record {
    lines = [];
    tail = p ++ b ∷ [];
    cut = cut_none (p ++ b ∷ []) (one_more p b h ne);
    does = (Did-nil w x x s, e);
  }

  -- one line feed
  pub Feeds-line : (p : List ℕ) (r : Result Flow E) (w v : World) (x y : Option (List ℕ)) → IsOneLine p → Ends settings p r w v x y → Feeds settings p (10 ∷ []) r w v x y (Some [])
  Feeds-line p (Ok flow.On) w v x y h d = record {
    lines = p ∷ [];
    tail = [];
    cut = cut_one p h;
    does = (Did-one p w v d.0 x y d.1 d.2, sym kept-nil);
  }
  Feeds-line p (Ok flow.Quit) w v x y h d = record {
    lines = p ∷ [];
    tail = [];
    cut = cut_one p h;
    does = ([], Quits-one p d.0, rw d.1 (Did-nil w x y d.2));
  }
  Feeds-line p (Err e) w v x y h d = record {
    lines = p ∷ [];
    tail = [];
    cut = cut_one p h;
    does = Stops-one p w v d.0 x y d.1 d.2;
  }

  -- two pieces
  pub Feeds-on : (p a b : List ℕ) (r : Result Flow E) (w m v : World) (x y z line line' : Option (List ℕ)) → (f : Feeds {E = E} settings p a (Ok flow.On) w m x y line) → Feeds settings f.tail b r m v y z line' → Feeds settings p (a ++ b) r w v x z line'
  Feeds-on p a b (Ok flow.On) w m v x y z line line' f k = record {
    lines = f.lines ++ k.lines;
    tail = k.tail;
    cut = cut_append p a b f.lines k.lines f.tail k.tail f.cut k.cut;
    does = (Did-append f.lines k.lines w m v x y z f.does.0 k.does.0, k.does.1);
  }
  Feeds-on p a b (Ok flow.Quit) w m v x y z line line' f k = record {
    lines = f.lines ++ k.lines;
    tail = k.tail;
    cut = cut_append p a b f.lines k.lines f.tail k.tail f.cut k.cut;
    does = (f.lines ++ k.does.0, Quits-after f.lines k.lines k.does.0 k.does.1, Did-append f.lines k.does.0 w m v x y z f.does.0 k.does.2);
  }
  Feeds-on p a b (Err e) w m v x y z line line' f k = record {
    lines = f.lines ++ k.lines;
    tail = k.tail;
    cut = cut_append p a b f.lines k.lines f.tail k.tail f.cut k.cut;
    does = Stops-after f.lines k.lines w m v x y z f.does.0 k.does;
  }

  -- what comes after a failure
  pub Feeds-failed : (p a b : List ℕ) (e e' : E) (w v : World) (x z line line' : Option (List ℕ)) → Feeds settings p a (Err e) w v x z line → Feeds settings p (a ++ b) (Err e') w v x z line'
  Feeds-failed p a b e e' w v x z line line' f =
      let more = cut_of f.tail b f.cut.rest in record {
        lines = f.lines ++ more.lines;
        tail = more.tail;
        cut = cut_append p a b f.lines more.lines f.tail more.tail f.cut more.cut;
        does = Stops-more f.lines more.lines w v x z f.does;
      }

  -- what comes after a quit
  pub Feeds-quit : (p a b : List ℕ) (w v : World) (x z line line' : Option (List ℕ)) → Feeds {E = E} settings p a (Ok flow.Quit) w v x z line → Feeds {E = E} settings p (a ++ b) (Ok flow.Quit) w v x z line'
  Feeds-quit p a b w v x z line line' f =
      let more = cut_of f.tail b f.cut.rest in record {
        lines = f.lines ++ more.lines;
        tail = more.tail;
        cut = cut_append p a b f.lines more.lines f.tail more.tail f.cut more.cut;
        does = (f.does.0, Quits-more f.lines more.lines f.does.0 f.does.1, f.does.2);
      }

  -- one byte more of a piece
  pub Feeds-next : (p c : List ℕ) (i : ℕ) (r : Result Flow E) (w m v : World) (x y z line line' : Option (List ℕ)) → i < length c → (f : Feeds {E = E} settings p (take i c) (Ok flow.On) w m x y line) → Feeds settings f.tail (get_or c i 0 ∷ []) r m v y z line' → Feeds settings p (take (i + 1) c) r w v x z line'
  Feeds-next p c i r w m v x y z line line' lt f k =
      rw (take_more c i 0 lt) (Feeds-on p (take i c) (get_or c i 0 ∷ []) r w m v x y z line line' f k)

  -- a failure in the midst of a piece
  pub Feeds-all : (p c : List ℕ) (n : ℕ) (e e' : E) (w v : World) (x z line : Option (List ℕ)) → Feeds settings p (take n c) (Err e) w v x z line → Feeds settings p c (Err e') w v x z line
  Feeds-all p c n e e' w v x z line f =
      let P : List ℕ → Type 0 = λ bytes. Feeds settings p bytes (Err e') w v x z line in
      subst P (take-append-drop n c) (Feeds-failed p (take n c) (drop n c) e e' w v x z line line f)

  -- a quit in the midst of a piece
  pub Feeds-ended : (p c : List ℕ) (n : ℕ) (w v : World) (x z line : Option (List ℕ)) → Feeds {E = E} settings p (take n c) (Ok flow.Quit) w v x z line → Feeds {E = E} settings p c (Ok flow.Quit) w v x z line
  Feeds-ended p c n w v x z line f =
      let P : List ℕ → Type 0 = λ bytes. Feeds {E = E} settings p bytes (Ok flow.Quit) w v x z line in
      subst P (take-append-drop n c) (Feeds-quit p (take n c) (drop n c) w v x z line line f)
