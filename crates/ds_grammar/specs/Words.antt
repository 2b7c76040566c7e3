-- The words that are refused: those of the LLVM Language Reference that would change what a module means, and that
-- are not read here.
use Rattle.std.specs.Prelude.{ℕ, Bool, true, false, ◌==◌, not, ◌&&◌, ◌||◌, List, [], ◌∷◌, map, codes}
use Rattle.std.specs.List.{list_all, list_any}
use Rattle.std.specs.Str.{bytes_eq}
use Prim.Native.String.{String}
use Rattle.ds_lex.specs.declared.token.TokenKind.{TokenKind}
use Rattle.ds_lex.specs.declared.token.TokenKind.TheVariants.{Word}
use Rattle.ds_lex.specs.Bytes.{is_digit}

-- a token of this kind is a word
abbrev pub is_word_kind : TokenKind → Bool
is_word_kind Word = true
is_word_kind other = false

-- bytes are one of these words
abbrev pub is_one_of : List (List ℕ) → List ℕ → Bool
is_one_of words bytes = list_any (bytes_eq bytes) words

-- words by their bytes
abbrev pub spelled : List String → List (List ℕ)
spelled words = map (λ (w : String). codes w) words

-- the integer types that are read
unfoldable pub integer_words : List (List ℕ)
integer_words = spelled ("i1" ∷ "i8" ∷ "i16" ∷ "i32" ∷ "i64" ∷ [])

-- i (105) and one or more digits
abbrev pub is_integer_word : List ℕ → Bool
is_integer_word (i ∷ d ∷ ds) = i == 105 && list_all is_digit (d ∷ ds)
is_integer_word other = false

-- the words that are refused, but for integer types
unfoldable pub refused_words : List (List ℕ)
refused_words = spelled (
    "byval" ∷ "inalloca" ∷ "preallocated" ∷ "half" ∷ "bfloat" ∷ "float" ∷ "double" ∷ "fp128" ∷ "x86_fp80" ∷ "metadata"
    ∷ "token" ∷ "invoke" ∷ "resume" ∷
    "landingpad" ∷ "callbr" ∷ "indirectbr" ∷ "asm" ∷ "addrspace" ∷ "thread_local" ∷ "extractelement" ∷ "insertelement"
    ∷ "shufflevector" ∷ "insertvalue" ∷
    "fadd" ∷ "fsub" ∷ "fmul" ∷ "fdiv" ∷ "frem" ∷ "fneg" ∷ "fcmp" ∷ "fptrunc" ∷ "fpext" ∷ "fptoui" ∷ "fptosi" ∷
    "uitofp" ∷ "sitofp" ∷ "va_arg" ∷ "freeze" ∷
    "bitcast" ∷ "addrspacecast" ∷ "blockaddress" ∷ "nand" ∷ "max" ∷ "min" ∷ "opaque" ∷ "comdat" ∷ "section" ∷
    "personality" ∷ "syncscope" ∷ "poison" ∷ "..." ∷ [])

-- bytes are a word that is refused
unfoldable pub is_refused_word : List ℕ → Bool
is_refused_word bytes = is_one_of refused_words bytes || (is_integer_word bytes && not (is_one_of integer_words bytes))

-- a token is a word that is refused
abbrev pub is_refused_token : TokenKind → List ℕ → Bool
is_refused_token kind bytes = is_word_kind kind && is_refused_word bytes
