-- How the program is used, and what the words of its commands are.
use Rattle.std.specs.Prelude.{ℕ, List, ◌++◌, codes}

-- a line for each command
abbrev pub usage_text : List ℕ
usage_text =
    codes "usage: run HW SEED MAX [mtu=N] [lease=N] [naks=ignore|obey]\n"
    ++ codes "       make SEED COUNT\n"
    ++ codes "       explain MAX\n"
    ++ codes "       print MAX\n"
    ++ codes "       disturb HW SEED MAX FSEED DROP CORRUPT\n"
    ++ codes "       serve HW ADDR FIRST COUNT PREFIX LEASE MAX\n"
    ++ codes "       show MAX\n"
    ++ codes "       frames MAX\n"
    ++ codes "       live COMMAND ...\n"
    ++ codes "       help\n"

-- what the words name
abbrev pub words_text : List ℕ
words_text =
    codes "HW       the hardware address of the host or the server: twelve hexadecimal digits\n"
    ++ codes "SEED     where the ids and ports of its messages come from: 0 to 4294967295\n"
    ++ codes "MAX      the most events that the script may have, of frames the most frames: 1 to 10000; of explain and print: 1 to 100000\n"
    ++ codes "COUNT    how many events the made script has: 1 to 10000; of serve how many addresses: 1 to 1000\n"
    ++ codes "FSEED    where the faults of a bad link come from: 0 to 4294967295\n"
    ++ codes "DROP     how often a frame is dropped, in percent: 0 to 100\n"
    ++ codes "CORRUPT  how often a frame has a bit flipped, in percent: 0 to 100\n"
    ++ codes "ADDR     the address of the server, such as 192.168.1.1\n"
    ++ codes "FIRST    the lowest address that it leases\n"
    ++ codes "PREFIX   how many ones the mask of its network has: 1 to 30\n"
    ++ codes "LEASE    how long a lease is, in seconds: 1 to 4294967295\n"

-- what is read, and what is written
abbrev pub files_text : List ℕ
files_text =
    codes "input    standard input: the script of frames, ticks, queries and resets; of explain, print and frames a capture\n"
    ++ codes "output   standard output: the report, a row an event; of explain a row a frame; of print the headers of each frame;\n"
    ++ codes "         of show and frames a line an event\n"
    ++ codes "capture  capture.pcap: all frames, those that arrived and those that were sent\n"

abbrev pub help_text : List ℕ
help_text = usage_text ++ (words_text ++ files_text)
