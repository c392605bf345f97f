-- Tags and attributes of XML 1.0, in a layout that is this project's own: after each '>' of a tag comes one line feed,
-- and there is no other white space between tags.
use Rattle.std.specs.Prelude.{ℕ, List, ◌++◌, codes}

-- What comes before the value of an attribute.
unfoldable pub attribute_start : List ℕ → List ℕ
attribute_start name = codes " " ++ name ++ codes "=\""

unfoldable pub attribute_end : List ℕ
attribute_end = codes "\""

-- An attribute: a space, its name, and its value in quotation marks.
unfoldable pub attribute : List ℕ → List ℕ → List ℕ
attribute name value = attribute_start name ++ value ++ attribute_end

unfoldable pub tag_start : List ℕ → List ℕ
tag_start name = codes "<" ++ name

unfoldable pub tag_end : List ℕ
tag_end = codes ">\n"

unfoldable pub empty_tag_end : List ℕ
empty_tag_end = codes "/>\n"

-- The tag that opens an element, with its attributes.
abbrev pub open_tag : List ℕ → List ℕ → List ℕ
open_tag name attributes = tag_start name ++ attributes ++ tag_end

-- The tag of an element without content.
abbrev pub empty_tag : List ℕ → List ℕ → List ℕ
empty_tag name attributes = tag_start name ++ attributes ++ empty_tag_end

unfoldable pub close_tag : List ℕ → List ℕ
close_tag name = codes "</" ++ name ++ codes ">\n"
