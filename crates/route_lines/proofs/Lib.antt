mod WorkedLines
