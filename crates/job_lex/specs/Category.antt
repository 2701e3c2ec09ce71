-- The category of each byte, after the category codes of TeX (TeX: The Program, section 207).
use Rattle.std.specs.Prelude.{ℕ, Bool, ◌==◌, ◌||◌, nat_lt, if◌then◌else◌}
use Rattle.std.specs.Char.{is_ascii_alphabetic}
use Rattle.job_lex.specs.declared.category.Category.{Category}
use Rattle.job_lex.specs.declared.category.Category.TheVariants.{Escape, BeginGroup, EndGroup, Active, Comment, Blank, Letter, Other, Special, Invalid}

-- tab, line feed, carriage return and space
abbrev pub is_blank : ℕ → Bool
is_blank b = b == 9 || b == 10 || b == 13 || b == 32

-- `#`, `$`, `&`, `^` and `_`
abbrev pub is_special : ℕ → Bool
is_special b = b == 35 || b == 36 || b == 38 || b == 94 || b == 95

-- the control bytes, blanks left out
abbrev pub is_control : ℕ → Bool
is_control b = nat_lt b 32 || b == 127

-- what a byte may be part of; `%` is 37, `\` is 92, `{` is 123, `}` is 125 and `~` is 126
unfoldable pub category : ℕ → Category
category b =
    if is_ascii_alphabetic b then Letter
    else (if is_blank b then Blank
    else (if b == 37 then Comment
    else (if b == 92 then Escape
    else (if b == 123 then BeginGroup
    else (if b == 125 then EndGroup
    else (if b == 126 then Active
    else (if is_special b then Special
    else (if is_control b then Invalid
    else Other))))))))
