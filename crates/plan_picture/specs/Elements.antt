-- Elements of a picture, each a line of SVG. Lengths are in pixels, and y grows downward.
use Rattle.std.specs.Prelude.{ℕ, ◌*◌, ◌/◌, Bool, ◌&&◌, nat_eq, nat_le, [], ◌∷◌, ◌++◌, codes, flat_map, length}
use Rattle.std.specs.Prelude.{if◌then◌else◌, max, min}
use Rattle.std.specs.Fmt.{decimal}
use Rattle.plan_text.specs.Names.{Text}

-- ---- texts in elements: what means something in XML stands as its entity; what isn't printable ASCII, as `?`

abbrev pub is_printable : ℕ → Bool
is_printable byte = nat_le 32 byte && nat_le byte 126

abbrev pub or_plain : ℕ → Text
or_plain byte = if is_printable byte then byte ∷ [] else codes "?"

abbrev pub or_quote : ℕ → Text
or_quote byte =
    if nat_eq byte 34 then codes "&quot;" else (if nat_eq byte 39 then codes "&#39;" else or_plain byte)

abbrev pub escaped_byte : ℕ → Text
escaped_byte byte =
    if nat_eq byte 38 then codes "&amp;"
    else (if nat_eq byte 60 then codes "&lt;" else (if nat_eq byte 62 then codes "&gt;" else or_quote byte))

abbrev pub escaped : Text → Text
escaped text = flat_map escaped_byte text

-- ---- lengths: a letter is six tenths as wide as its size, so a text gets a size at which it fits

-- the size of letters at which `count` of them fit a width, and `most` at most
abbrev pub fitting : ℕ → ℕ → ℕ → ℕ
fitting most width count = min most (width * 5 / 3 / max count 1)

-- ---- elements, each of a class, which says how it looks

abbrev pub box : Text → ℕ → ℕ → ℕ → ℕ → Text
box class x y width height =
    codes "<rect class=\"" ++ (class ++ (codes "\" x=\"" ++ (decimal x ++ (codes "\" y=\"" ++ (decimal y
    ++ (codes "\" width=\"" ++ (decimal width ++ (codes "\" height=\"" ++ (decimal height ++ codes "\"/>\n")))))))))

-- an upright line from one height to another
abbrev pub upright : Text → ℕ → ℕ → ℕ → Text
upright class x from to =
    codes "<line class=\"" ++ (class ++ (codes "\" x1=\"" ++ (decimal x ++ (codes "\" y1=\"" ++ (decimal from
    ++ (codes "\" x2=\"" ++ (decimal x ++ (codes "\" y2=\"" ++ (decimal to ++ codes "\"/>\n")))))))))

-- a level line at a height, from one distance from the left to another
abbrev pub level : Text → ℕ → ℕ → ℕ → Text
level class y from to =
    codes "<line class=\"" ++ (class ++ (codes "\" x1=\"" ++ (decimal from ++ (codes "\" y1=\"" ++ (decimal y
    ++ (codes "\" x2=\"" ++ (decimal to ++ (codes "\" y2=\"" ++ (decimal y ++ codes "\"/>\n")))))))))

abbrev pub circle : Text → ℕ → ℕ → ℕ → Text
circle class x y radius =
    codes "<circle class=\"" ++ (class ++ (codes "\" cx=\"" ++ (decimal x ++ (codes "\" cy=\"" ++ (decimal y
    ++ (codes "\" r=\"" ++ (decimal radius ++ codes "\"/>\n")))))))

-- how a text of letters of some size begins, and how it ends
abbrev pub opening : Text → ℕ → ℕ → ℕ → Text
opening class x y size =
    codes "<text class=\"" ++ (class ++ (codes "\" x=\"" ++ (decimal x ++ (codes "\" y=\"" ++ (decimal y
    ++ (codes "\" font-size=\"" ++ (decimal size ++ codes "\">")))))))

abbrev pub slope : Text → ℕ → ℕ → ℕ → Text
slope class x y size =
    codes "<text class=\"" ++ (class ++ (codes "\" transform=\"translate(" ++ (decimal x ++ (codes " " ++ (decimal y
    ++ (codes ") rotate(-45)\" font-size=\"" ++ (decimal size ++ codes "\">")))))))

abbrev pub closing : Text → Text
closing content = escaped content ++ codes "</text>\n"

-- a text whose letters are `most` high, or lower if it doesn't fit a width
abbrev pub label : Text → ℕ → ℕ → ℕ → ℕ → Text → Text
label class x y most width content = opening class x y (fitting most width (length content)) ++ closing content

-- the same at a slant, upward
abbrev pub slanted : Text → ℕ → ℕ → ℕ → ℕ → Text → Text
slanted class x y most width content = slope class x y (fitting most width (length content)) ++ closing content
