-- The tokens of characters, one after the other.
use Rattle.std.proofs.Common.{◌≡◌, ◌++◌, ℕ, true, false, List, [], ◌∷◌, sym, ap, subst, ◌∙◌, append_assoc}
use Rattle.std.proofs.lemmas.List.{append-nil, map_push}
use Rattle.library_model.specs.LibertyTokens as grammar
use Rattle.library_model.specs.LibertyTokens.{AreTokens, Character, Ending, at_end, in_quotes}
use Rattle.lib_cells.specs.Characters.{Shows}
use Rattle.lib_cells.specs.declared.scanning.lexing.Lexed.{Lexed}
use Rattle.lib_cells.specs.declared.scanning.lexing.Step.TheVariants.{End, Found, InQuotes}
use Rattle.lib_cells.specs.declared.scanning.rest.Rest.{Rest}
use Rattle.lib_cells.specs.declared.scanning.tokens.Token.{Token}
use Rattle.lib_cells.specs.Lexing.{AreLexed, TokenAt}
use Rattle.lib_cells.specs.Seen.{token_seen, tokens_seen}

-- characters are left after tokens; with their tokens these are all
pub record LeftOf (cs : List Character) (tokens : List Token) (text lines : List ℕ) : Type 0 where
  pub left : List Character
  pub shows : Shows text lines left
  pub row : (more : List grammar.Token) (ending : Ending) → AreTokens left more ending → AreTokens cs (tokens_seen tokens ++ more) ending

-- tokens were read up to what is left
pub record TokensSoFar (text lines : List ℕ) (tokens : List Token) (rest : Rest) : Type 0 where
  pub is : (cs : List Character) → Shows text lines cs → LeftOf cs tokens rest.text.now rest.lines.now

pub tokens_none : (text lines : List ℕ) (tokens : List Token) (rest : Rest) → tokens ≡ [] → rest.text.now ≡ text → rest.lines.now ≡ lines → TokensSoFar text lines tokens rest
tokens_none text lines tokens rest none text_is lines_is = record {
  is = λ cs shows. record {
    left = cs;
    shows = record { bytes_are = shows.bytes_are ∙ sym text_is; lines_are = shows.lines_are ∙ sym lines_is };
    row = λ more ending r. subst (λ (ts : List Token). AreTokens cs (tokens_seen ts ++ more) ending) (sym none) r;
  };
}

one_more : (tokens : List Token) (token : Token) (more : List grammar.Token) → tokens_seen tokens ++ (token_seen token ∷ more) ≡ tokens_seen (tokens ++ token ∷ []) ++ more
one_more tokens token more = sym (append_assoc (tokens_seen tokens) (token_seen token ∷ []) more) ∙ ap (λ (ts : List grammar.Token). ts ++ more) (sym (map_push token_seen tokens token))

pub tokens_more : (text lines : List ℕ) (tokens next : List Token) (rest after : Rest) (token : Token) → TokensSoFar text lines tokens rest → TokenAt rest.text.now rest.lines.now (Found token after) → next ≡ tokens ++ token ∷ [] → TokensSoFar text lines next after
tokens_more text lines tokens next rest after token so_far at next_is = record {
  is = λ cs shows.
      let left = so_far.is cs shows in
      let step = at.is left.left left.shows in
      record {
        left = step.0;
        shows = step.2;
        row = λ more ending r.
            subst (λ (ts : List grammar.Token). AreTokens cs ts ending) (one_more tokens token more ∙ ap (λ (ts : List Token). tokens_seen ts ++ more) (sym next_is))
            (left.row (token_seen token ∷ more) ending (step.0, step.1, r));
      };
}

pub tokens_end : (text lines : List ℕ) (tokens : List Token) (rest : Rest) (lexed : Lexed) → TokensSoFar text lines tokens rest → TokenAt rest.text.now rest.lines.now End → lexed.tokens.items ≡ tokens → lexed.unfinished ≡ false → AreLexed text lines lexed
tokens_end text lines tokens rest lexed so_far at tokens_are finished = record {
  is = λ cs shows.
      let left = so_far.is cs shows in
      record {
        stood = tokens_seen tokens ++ [];
        ending = at_end;
        row = left.row [] at_end (at.is left.left left.shows);
        all = ap tokens_seen tokens_are ∙ (sym (append-nil (tokens_seen tokens)) ∙ sym (append-nil (tokens_seen tokens ++ [])));
        whole = finished;
      };
}

pub tokens_in_quotes : (text lines : List ℕ) (tokens : List Token) (rest : Rest) (token : Token) (lexed : Lexed) → TokensSoFar text lines tokens rest → TokenAt rest.text.now rest.lines.now (InQuotes token) → lexed.tokens.items ≡ tokens ++ token ∷ [] → lexed.unfinished ≡ true → AreLexed text lines lexed
tokens_in_quotes text lines tokens rest token lexed so_far at tokens_are unfinished = record {
  is = λ cs shows.
      let left = so_far.is cs shows in
      record {
        stood = tokens_seen tokens ++ [];
        ending = in_quotes (token_seen token);
        row = left.row [] (in_quotes (token_seen token)) (at.is left.left left.shows);
        all = ap tokens_seen tokens_are ∙ (map_push token_seen tokens token ∙ ap (λ (ts : List grammar.Token). ts ++ token_seen token ∷ []) (sym (append-nil (tokens_seen tokens))));
        whole = unfinished;
      };
}
