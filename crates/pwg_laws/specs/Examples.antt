-- The values that the examples share.
use Rattle.std.specs.Prelude.{ℕ, List, [], ◌∷◌, ◌++◌, true, Result}
use Rattle.pwg_definitions.specs.declared.pages.Kind.{Kind}
use Rattle.pwg_definitions.specs.declared.pages.Kind.TheVariants.{Gray8, Black1, Cmyk8}
use Rattle.pwg_definitions.specs.declared.pages.PageForm.{PageForm}
use Rattle.pwg_definitions.specs.declared.pages.Header.{Header}
use Rattle.pwg_definitions.specs.declared.pages.Wanted.{Wanted}
use Rattle.pwg_definitions.specs.declared.faults.HeaderFault.{HeaderFault}
use Rattle.pwg_definitions.specs.Header.{check, header_bytes, row_of}
use Rattle.pwg_definitions.specs.Groups.{GroupRead, group_at}
use Rattle.pwg_definitions.specs.Stream.{Page, Stream, StreamEnd, stream, sync_word}

-- pages of 360 dots an inch, of 1 to 8,191 pixels by 1 to 7,920 lines
abbrev pub wants : Wanted
wants = record { hdpi = 360; vdpi = 360; least_width = 1; most_width = 8191; least_height = 1; most_height = 7920 }

-- a page of 4 by 2 pixels in grey
abbrev pub small_form : PageForm
small_form = record { width = 4; height = 2; kind = Gray8; bytes_per_line = 4 }

-- the page of this form: a line of 0xD1, and a line of three 0x9F and a 0xA3
abbrev pub small_page : Page
small_page = record {
  form = small_form;
  lines = (0xD1 ∷ 0xD1 ∷ 0xD1 ∷ 0xD1 ∷ []) ∷ (0x9F ∷ 0x9F ∷ 0x9F ∷ 0xA3 ∷ []) ∷ [];
}

-- the header of this page
abbrev pub small_header : List ℕ
small_header = header_bytes small_form 360 360

-- its bytes
abbrev pub small_bytes : List ℕ
small_bytes = small_header ++ (0x00 ∷ 0x03 ∷ 0xD1 ∷ 0x00 ∷ 0x02 ∷ 0x9F ∷ 0x00 ∷ 0xA3 ∷ [])

-- its bytes without the last one
abbrev pub small_prefix : List ℕ
small_prefix = small_header ++ (0x00 ∷ 0x03 ∷ 0xD1 ∷ 0x00 ∷ 0x02 ∷ 0x9F ∷ 0x00 ∷ [])

-- a page of 12 by 2 pixels of one bit
abbrev pub bits_form : PageForm
bits_form = record { width = 12; height = 2; kind = Black1; bytes_per_line = 2 }

-- the page of this form: four black pixels, four white ones and four black ones; and four white pixels and eight black
-- ones. The four bits behind each line mean nothing.
abbrev pub bits_page : Page
bits_page = record { form = bits_form; lines = (0xF0 ∷ 0xF0 ∷ []) ∷ (0x0F ∷ 0xFF ∷ []) ∷ [] }

-- its bytes
abbrev pub bits_bytes : List ℕ
bits_bytes = header_bytes bits_form 360 360 ++ (0x00 ∷ 0x01 ∷ 0xF0 ∷ 0x00 ∷ 0xFF ∷ 0x0F ∷ 0xFF ∷ [])

-- a page of 2 by 2 pixels of four inks
abbrev pub inks_form : PageForm
inks_form = record { width = 2; height = 2; kind = Cmyk8; bytes_per_line = 8 }

-- the page of this form: a line of two equal pixels, and a white line
abbrev pub inks_page : Page
inks_page = record {
  form = inks_form;
  lines = (0x01 ∷ 0x02 ∷ 0x03 ∷ 0x04 ∷ 0x01 ∷ 0x02 ∷ 0x03 ∷ 0x04 ∷ []) ∷ (0 ∷ 0 ∷ 0 ∷ 0 ∷ 0 ∷ 0 ∷ 0 ∷ 0 ∷ []) ∷ [];
}

-- the header of this page
abbrev pub inks_header : List ℕ
inks_header = header_bytes inks_form 360 360

-- its bytes
abbrev pub inks_bytes : List ℕ
inks_bytes = inks_header ++ (0x00 ∷ 0x01 ∷ 0x01 ∷ 0x02 ∷ 0x03 ∷ 0x04 ∷ 0x00 ∷ 0x80 ∷ [])

-- what a stream of the sync word and these bytes is read as
abbrev pub read : List ℕ → Stream
read bytes = stream wants (sync_word ++ bytes)

-- whole pages, and how the stream ends
abbrev pub pages_then : List Page → StreamEnd → Stream
pages_then pages end = record { pages = pages; end = end }

-- the fields of a header of a page in grey, of this size
abbrev pub header_sized : ℕ → ℕ → Header
header_sized width height = record {
  is_pwg = true;
  hres = 360;
  vres = 360;
  width = width;
  height = height;
  bits_per_color = 8;
  bits_per_pixel = 8;
  bytes_per_line = width;
  color_order = 0;
  color_space = 18;
  cross_transform = 1;
  feed_transform = 1;
}

-- the form of its page
abbrev pub form_sized : ℕ → ℕ → PageForm
form_sized width height = record { width = width; height = height; kind = Gray8; bytes_per_line = width }

-- the fields of the small page's header
abbrev pub good : Header
good = header_sized 4 2

-- what these headers give
abbrev pub checked : Header → Result PageForm HeaderFault
checked h = check wants h

-- the same header with the numbers of another kind
abbrev pub of_kind : ℕ → ℕ → ℕ → ℕ → Header
of_kind color_space bits_per_color bits_per_pixel bytes_per_line = record good {
  color_space = color_space;
  bits_per_color = bits_per_color;
  bits_per_pixel = bits_per_pixel;
  bytes_per_line = bytes_per_line;
}

-- a group of a page of this kind
abbrev pub group_of : Kind → ℕ → ℕ → List ℕ → GroupRead
group_of kind units left bytes = group_at (row_of kind) units left bytes

-- a group of a page in grey
abbrev pub grey_group : ℕ → ℕ → List ℕ → GroupRead
grey_group units left bytes = group_of Gray8 units left bytes
